-- The text of a line, store by store; and a call, by what the card promises of it. Assumes nothing.
use mathlib.Core.Path.{◌≡◌, refl, sym, ap, subst, ◌∙◌}
use mathlib.Core.List.{List, [], ◌∷◌, ◌++◌}
use Prim.Native.Nat.{ℕ, ◌+◌, ◌-◌, ◌*◌, ◌%◌, ◌≤◌, ◌<◌}
use native.Mathlib.Omega.{arith}
use borrow.Author.Tests.{lt-ltb, le-ltb}
use borrow.Rule.Slice.PartMut.{mid_of, put_mid}
use lib.ListN.{length, take, set, length-set, length-append, length-take, length-drop}
use lib.Seq.{sets, length-sets}
use Rattle.base.specs.Buffers.{front, ascii_least}
use Rattle.base.proofs.Sets.{sets_part, sets_append, sets_front, take_front, front_none}
use Rattle.hex_pairs.specs.Hex.{hex_of}
use Rattle.hex_pairs.proofs.RoundTrip.{length_hex}
use Rattle.card.specs.Outcome.{outcome_number}
use Rattle.card.specs.declared.state.Card.{Card}
use Rattle.turn.specs.Turn.{Received}
use Rattle.turn.specs.declared.Turn.{Turn}
use Rattle.turn.specs.declared.Turned.{Turned}
use Rattle.turn.proofs.Laws.{Does}
use Rattle.receive.specs.Receive.{received, turn_on}
use Rattle.session_loop.specs.Line.{Report, shown, line_text, line_of, reported}

-- ---- the text of a line
shown_none : (reply : List ℕ) → length reply ≡ 0 → shown reply ≡ 0x2D ∷ []
shown_none [] h = refl
shown_none (b ∷ reply) h = absurd (omega arith)

shown_some : (reply : List ℕ) → (length reply ≡ 0 → ⊥) → shown reply ≡ hex_of reply
shown_some [] h = absurd (h refl)
shown_some (b ∷ reply) h = refl

module _ (number : ℕ) (reply text : List ℕ) (room : 2 * length reply + 4 ≤ length text) where
  -- `-` for no reply
  pub line_none : length reply ≡ 0
      → (4 ≡ length (line_text number reply)) × (set (set (set (set text 0 (48 + number % 10)) 1 32) 2 45) 3 10 ≡ front (line_text number reply) text)
  unfolding line_text
  line_none h = rw (shown_none reply h) (refl, sets_front ((48 + number % 10) ∷ 32 ∷ 45 ∷ 10 ∷ []) text (omega arith))

  -- the digits go into the part after the first two characters
  abbrev begun : List ℕ
  begun = set (set text 0 (48 + number % 10)) 1 32

  begun_length : length begun ≡ length text
  begun_length = simp length-set

  pub digits_put : (l : List ℕ) → l ≡ sets (mid_of 2 (length begun - 2) begun) 0 (hex_of reply)
      → put_mid 2 (length begun - 2) begun l ≡ sets text 0 ((48 + number % 10) ∷ 32 ∷ hex_of reply)
  digits_put l q =
      ap (put_mid 2 (length begun - 2) begun) q
      ∙ sets_part 2 (length begun - 2) 0 begun (hex_of reply) (omega (arith, begun_length))
      (simp (length-take, length-drop) (omega (arith, begun_length, length_hex reply)))

  pub digits_length : (l : List ℕ) → l ≡ sets (mid_of 2 (length begun - 2) begun) 0 (hex_of reply) → length (put_mid 2 (length begun - 2) begun l) ≡ length text
  digits_length l q = ap length (digits_put l q) ∙ length-sets text 0 ((48 + number % 10) ∷ 32 ∷ hex_of reply)

  pub ended_length : (l : List ℕ) (i v : ℕ) → l ≡ sets (mid_of 2 (length begun - 2) begun) 0 (hex_of reply) → length (set (put_mid 2 (length begun - 2) begun l) i v) ≡ length text
  ended_length l i v q = length-set (put_mid 2 (length begun - 2) begun l) i v ∙ digits_length l q

  pub line_some : (l : List ℕ) → (length reply ≡ 0 → ⊥) → l ≡ sets (mid_of 2 (length begun - 2) begun) 0 (hex_of reply)
      → (2 + 2 * length reply + 1 ≡ length (line_text number reply))
      × (set (put_mid 2 (length begun - 2) begun l) (2 + 2 * length reply) 10 ≡ front (line_text number reply) text)
  unfolding line_text
  line_some l h q =
      let digits : length (hex_of reply) ≡ 2 * length reply = length_hex reply in
      let end : 2 + 2 * length reply ≡ 0 + length ((48 + number % 10) ∷ 32 ∷ hex_of reply) = omega arith in
      let count : 2 + 2 * length reply + 1 ≡ length ((48 + number % 10) ∷ 32 ∷ (hex_of reply ++ 10 ∷ [])) = omega (arith, length-append (hex_of reply) (10 ∷ [])) in
      rw (shown_some reply h) (
        count,
        ap (λ (s : List ℕ). set s (2 + 2 * length reply) 10) (digits_put l q)
            ∙ ap (λ (n : ℕ). set (sets text 0 ((48 + number % 10) ∷ 32 ∷ hex_of reply)) n 10) end
            ∙ sym (sets_append ((48 + number % 10) ∷ 32 ∷ hex_of reply) (10 ∷ []) text 0)
            ∙ sets_front ((48 + number % 10) ∷ 32 ∷ (hex_of reply ++ 10 ∷ [])) text (omega (arith, count)),
      )

-- a line has four characters and the reply's digits at most
pub line_length : (number : ℕ) (reply : List ℕ) → length (line_text number reply) ≤ 2 * length reply + 4
unfolding line_text
line_length number [] = omega arith
line_length number (b ∷ reply) = omega (arith, length-append (hex_of (b ∷ reply)) (10 ∷ []), length_hex (b ∷ reply))

-- ---- a call, by what the card promises of it
-- what is reported of a turn, with a line of so many characters
abbrev pub report_of : Turn → ℕ → Report
report_of x n = record { card = x.card; used = x.used; reply = x.len; line = n }

-- the buffer for the reply is long enough for every protocol; d is the card after the call
module _ (c d : Card) (bytes before after : List ℕ) (t : Turned) (room : length before ≡ ascii_least)
    (does : Does (turn_on d t) after (received c bytes (length before)) before) where
  abbrev r : Received
  r = received c bytes ascii_least

  turns : Does (turn_on d t) after r before
  turns = subst (λ (n : ℕ). Does (turn_on d t) after (received c bytes n) before) room does

  same_len : t.len ≡ length r.reply
  same_len = ap (λ (x : Turn). x.len) turns.0

  reply_read : take t.len after ≡ r.reply
  reply_read = rw (same_len, turns.1) (take_front r.reply before)

  -- by the number of its outcome
  module _ (number : ℕ) (numbered : number ≡ outcome_number t.outcome) where
    said : number ≡ outcome_number r.outcome
    said = numbered ∙ ap (λ (x : Turn). outcome_number x.outcome) turns.0

    no_line : 9 < number → line_of r ≡ []
    unfolding line_of
    no_line h = let l : 9 < outcome_number r.outcome = omega (arith, said) in simp (lt-ltb 9 (outcome_number r.outcome) l)

    a_line : number ≤ 9 → line_text number (take t.len after) ≡ line_of r
    unfolding line_of
    a_line h = let l : outcome_number r.outcome ≤ 9 = omega (arith, said) in rw (reply_read, said) (simp (le-ltb 9 (outcome_number r.outcome) l))

    pub serve_none : (text : List ℕ) → 9 < number → (report_of (turn_on d t) 0 ≡ reported r) × ((after ≡ front r.reply before) × (text ≡ front (line_of r) text))
    serve_none text h = let none : line_of r ≡ [] = no_line h in rw none (ap (λ (x : Turn). report_of x 0) turns.0, (turns.1, sym (front_none text)))

    pub serve_line : (text out : List ℕ) (n : ℕ) → number ≤ 9
        → (n ≡ length (line_text number (take t.len after))) × (out ≡ front (line_text number (take t.len after)) text)
        → (report_of (turn_on d t) n ≡ reported r) × ((after ≡ front r.reply before) × (out ≡ front (line_of r) text))
    serve_line text out n h e =
        let count : n ≡ length (line_of r) = e.0 ∙ ap length (a_line h) in
        let lent : out ≡ front (line_of r) text = e.1 ∙ ap (λ (l : List ℕ). front l text) (a_line h) in
        rw count (ap (λ (x : Turn). report_of x (length (line_of r))) turns.0, (turns.1, lent))
