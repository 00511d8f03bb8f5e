-- What the code makes of a request: the message of the address and the unit is put where it fits. Assumes nothing.
use Rattle.std.proofs.Common.{Ok, Err, Some}
use mathlib.Core.Path.{◌≡◌, refl, sym, ap, ◌∙◌}
use mathlib.Core.Bool.{Bool, true, false}
use mathlib.Core.List.{List, [], ◌∷◌, ◌++◌}
use Prim.Native.Nat.{ℕ, ◌≤◌, ◌<◌}
use native.Mathlib.Omega.{arith}
use borrow.Author.Tests.{leb-true, leb-false}
use lib.Dec.{leb}
use lib.ListN.{length, take}
use Rattle.base.specs.Buffers.{front, fitting}
use Rattle.base.proofs.Sets.{fitting_all, fitting_none}
use Rattle.checks.specs.Lrc.{lrc_of}
use Rattle.ascii.specs.Ascii.{text_of, with_lrc, ascii_of}
use Rattle.ascii.proofs.Message.{text_length}
use Rattle.master.specs.declared.Unsent.TheVariants.{ShortBuffer}
use Rattle.master.specs.Sent.{sent_of, bytes_sent}
use Rattle.master.proofs.Sends.{short_sent, short_bytes, written_sent, written_bytes}
use Rattle.master_request.specs.declared.Ask.{Ask}
use Rattle.master_request.specs.declared.Body.{Body}
use Rattle.master_request.specs.Ask.{sayable, request_unit, body_said}
use Rattle.master_request.proofs.Made.{said, body_taken}

-- ---- the message m, put into the text t: `put_text` tells its length, or 0
module _ (m t : List ℕ) (some : 1 ≤ length m) (r : ℕ) (count : r ≡ length (fitting m (length t))) where
  too_short : r ≡ 0 → length t < length m
  too_short e = go (leb (length m) (length t)) refl
    where
      go : (u : Bool) → leb (length m) (length t) ≡ u → length t < length m
      go true h = absurd (omega (arith, ap length (fitting_all m (length t) (leb-true (length m) (length t) h))))
      go false h = leb-false (length m) (length t) h

  has_room : (r ≡ 0 → ⊥) → length m ≤ length t
  has_room n = go (leb (length m) (length t)) refl
    where
      go : (u : Bool) → leb (length m) (length t) ≡ u → length m ≤ length t
      go true h = leb-true (length m) (length t) h
      go false h = absurd (n (count ∙ ap length (fitting_none m (length t) (leb-false (length m) (length t) h))))

-- ---- the body, and its message
module _ (a : ℕ) (ask : Ask) (s : List ℕ) (b : Body) (made : Some b ≡ body_said a ask s) where
  message : text_of (with_lrc (take b.size b.bytes)) ≡ ascii_of a (request_unit ask s)
  unfolding ascii_of
  message = ap (λ (l : List ℕ). text_of (with_lrc l)) (body_taken a ask s b made)

  -- the text t, of which `put_text` told r
  module _ (t : List ℕ) (r : ℕ) (count : r ≡ length (fitting (text_of (with_lrc (take b.size b.bytes))) (length t))) where
    m : List ℕ
    m = ascii_of a (request_unit ask s)

    some_text : 1 ≤ length m
    unfolding m ascii_of
    some_text = omega (arith, text_length ((a ∷ request_unit ask s) ++ lrc_of (a ∷ request_unit ask s) ∷ []))

    told : r ≡ length (fitting m (length t))
    unfolding m
    told = count ∙ ap (λ (y : List ℕ). length (fitting y (length t))) message

    pub text_short : r ≡ 0 → (Err ShortBuffer) ≡ sent_of (sayable a ask (length s)) (ascii_of a (request_unit ask s)) (length t)
    unfolding m
    text_short e = short_sent (sayable a ask (length s)) m t (said a ask s b made) (too_short m t some_text r told e)

    pub text_sent : (r ≡ 0 → ⊥) → Ok r ≡ sent_of (sayable a ask (length s)) (ascii_of a (request_unit ask s)) (length t)
    unfolding m
    text_sent n =
        let fits : length m ≤ length t = has_room m t some_text r told n in
        written_sent (sayable a ask (length s)) m t (said a ask s b made) fits r (told ∙ ap length (fitting_all m (length t) fits))

    -- and which is now z
    module _ (z : List ℕ) (q : z ≡ front (fitting (text_of (with_lrc (take b.size b.bytes))) (length t)) t) where
      stored : z ≡ front (fitting m (length t)) t
      unfolding m
      stored = q ∙ ap (λ (y : List ℕ). front (fitting y (length t)) t) message

      pub text_short_lent : r ≡ 0 → z ≡ front (bytes_sent (sayable a ask (length s)) (ascii_of a (request_unit ask s)) (length t)) t
      unfolding m
      text_short_lent e =
          let short : length t < length m = too_short m t some_text r told e in
          stored ∙ ap (λ (y : List ℕ). front y t) (fitting_none m (length t) short ∙ sym (short_bytes (sayable a ask (length s)) m t (said a ask s b made) short))

      pub text_lent : (r ≡ 0 → ⊥) → z ≡ front (bytes_sent (sayable a ask (length s)) (ascii_of a (request_unit ask s)) (length t)) t
      unfolding m
      text_lent n =
          let fits : length m ≤ length t = has_room m t some_text r told n in
          stored ∙ ap (λ (y : List ℕ). front y t) (fitting_all m (length t) fits ∙ sym (written_bytes (sayable a ask (length s)) m t (said a ask s b made) fits))
