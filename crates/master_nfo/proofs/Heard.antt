-- What the master writes is one well-formed message, and what the card reads in it is the request that was made; so it is in either letters. Assumes nothing.
use Rattle.std.proofs.Common.{Some}
use mathlib.Core.Path.{◌≡◌, refl, ap}
use mathlib.Core.Bool.{true}
use mathlib.Core.List.{List}
use Prim.Native.Nat.{ℕ, ◌+◌, ◌<◌}
use lib.ListN.{length}
use Rattle.hex_pairs.specs.Hex.{hex_of}
use Rattle.nfo.specs.Shape.{whole}
use Rattle.nfo.specs.Message.{enquiry, formed, nfo}
use Rattle.nfo_parts.specs.declared.message.Message.TheVariants.{Enquiry, Select}
use Rattle.nfo_parts.specs.Parts.{number_in, parameter_at, value_at, message_of}
use Rattle.nfo_parts.specs.Replies.{digits_of, Spells}
use Rattle.nfo_parts.proofs.Spelt.{digits_spell, four}
use Rattle.nfo.proofs.Address.{adr_fits}
use Rattle.nfo.proofs.Formed.{digit_text, reply_formed}
use Rattle.master_nfo.specs.Requests.{enquiry_with, enquiry_of, select_with, select_of}

-- ---- "ENQUIRY, 8 bytes"
module _ (a e : ℕ) (number : List ℕ) (p : Spells number e) where
  pub enquiry_spelt : a < 96 → nfo.formed (enquiry_with a number) ≡ true
  unfolding formed whole enquiry
  enquiry_spelt h =
      let f = four number e p in
      rw f.are (simp (adr_fits a h, digit_text f.a f.hex.0, digit_text f.b f.hex.1, digit_text f.c f.hex.2, digit_text f.d f.hex.3))

  pub enquiry_asks : e < 65536 → message_of (enquiry_with a number) ≡ Enquiry (a + 32) (Some (record { 0 = e }))
  unfolding message_of parameter_at value_at
  enquiry_asks h = let f = four number e p in rw f.are (ap (λ v. Enquiry (a + 32) (number_in v)) (f.value h))

module _ (a e : ℕ) where
  pub enquiry_length : length (enquiry_of a e) ≡ 8
  unfolding enquiry_of digits_of hex_of
  enquiry_length = refl

  pub enquiry_formed : a < 96 → nfo.formed (enquiry_of a e) ≡ true
  unfolding enquiry_of
  enquiry_formed h = enquiry_spelt a e (digits_of e) (digits_spell e) h

  pub enquiry_heard : e < 65536 → message_of (enquiry_of a e) ≡ Enquiry (a + 32) (Some (record { 0 = e }))
  unfolding enquiry_of
  enquiry_heard h = enquiry_asks a e (digits_of e) (digits_spell e) h

-- ---- "SELECT, 15 bytes": after its 04 it has the bytes of a REPLY
module _ (a e w : ℕ) (number value : List ℕ) (p : Spells number e) (v : Spells value w) where
  pub select_spelt : a < 96 → nfo.formed (select_with a number value) ≡ true
  select_spelt h = reply_formed (a + 32) e w number value p v (adr_fits a h)

  pub select_asks : e < 65536 → w < 65536 → message_of (select_with a number value) ≡ Select (a + 32) (Some (record { 0 = e })) (Some w)
  unfolding message_of parameter_at value_at
  select_asks h k =
      let f = four number e p in
      let g = four value w v in
      rw (f.are, g.are) (λ i. Select (a + 32) (number_in (f.value h i)) (g.value k i))

module _ (a e w : ℕ) where
  pub select_length : length (select_of a e w) ≡ 15
  unfolding select_of digits_of hex_of
  select_length = refl

  pub select_formed : a < 96 → nfo.formed (select_of a e w) ≡ true
  unfolding select_of
  select_formed h = select_spelt a e w (digits_of e) (digits_of w) (digits_spell e) (digits_spell w) h

  pub select_heard : e < 65536 → w < 65536 → message_of (select_of a e w) ≡ Select (a + 32) (Some (record { 0 = e })) (Some w)
  unfolding select_of
  select_heard h k = select_asks a e w (digits_of e) (digits_of w) (digits_spell e) (digits_spell w) h k
