-- The words that bytes spell, and the bytes of words: each from the other. Assumes nothing.
use mathlib.Core.Path.{◌≡◌, refl, ap, ap₂, ◌∙◌}
use mathlib.Core.List.{List, [], ◌∷◌, ◌++◌}
use Prim.Native.Nat.{ℕ, zero, suc, ◌+◌, ◌*◌, ◌/◌, ◌%◌, ◌<◌}
use native.Mathlib.Omega.{arith}
use lib.ListN.{length, get_or}
use Rattle.base.specs.Bytes.{AllBelow, Bytes}
use Rattle.modbus_words.specs.Words.{word_bytes, word_at}
use Rattle.modbus_words.proofs.Laws.{word_own}
use Rattle.master_reply.specs.Reply.{words_from}
use Rattle.master_reply.specs.Told.{words_bytes}

-- two bytes are those of their word
pub bytes_own : (h l : ℕ) → l < 256 → word_bytes (256 * h + l) ≡ h ∷ l ∷ []
unfolding word_bytes
bytes_own h l b =
    let p : (256 * h + l) / 256 ≡ h = omega arith in
    let q : (256 * h + l) % 256 ≡ l = omega arith in
    (λ i. p i ∷ q i ∷ [])

-- two bytes in front put each place two further on
shift_word : (x y : ℕ) (s : List ℕ) (at : ℕ) → word_at (x ∷ y ∷ s) (at + 2) ≡ word_at s at
unfolding word_at
shift_word x y s at =
    let p : at + 2 ≡ suc (suc at) = omega arith in
    let q : at + 2 + 1 ≡ suc (suc (at + 1)) = omega arith in
    (λ i. 256 * get_or (x ∷ y ∷ s) (p i) 0 + get_or (x ∷ y ∷ s) (q i) 0)

pub shift_words : (x y : ℕ) (s : List ℕ) (at n : ℕ) → words_from (x ∷ y ∷ s) (at + 2) n ≡ words_from s at n
unfolding words_from
shift_words x y s at zero = refl
shift_words x y s at (suc n) = ap₂ (λ (w : ℕ) (ws : List ℕ). w ∷ ws) (shift_word x y s at) (shift_words x y s (at + 2) n)

pub bytes_length : (ws : List ℕ) → length (words_bytes ws) ≡ 2 * length ws
unfolding words_bytes word_bytes
bytes_length [] = refl
bytes_length (w ∷ ws) = omega (arith, bytes_length ws)

-- the words of the bytes of words are the words
pub words_again : (ws : List ℕ) → words_from (words_bytes ws) 0 (length ws) ≡ ws
unfolding words_from words_bytes word_bytes word_at
words_again [] = refl
words_again (w ∷ ws) =
    ap₂ (λ (v : ℕ) (vs : List ℕ). v ∷ vs) (word_own w) (shift_words (w / 256) (w % 256) (words_bytes ws) 0 (length ws) ∙ words_again ws)

-- and the bytes of the words of bytes are the bytes
pub bytes_again : (s : List ℕ) (n : ℕ) → Bytes s → length s ≡ 2 * n → words_bytes (words_from s 0 n) ≡ s
unfolding words_from words_bytes AllBelow word_at
bytes_again [] zero b e = refl
bytes_again [] (suc n) b e = absurd (omega arith)
bytes_again (h ∷ []) n b e = absurd (omega arith)
bytes_again (h ∷ l ∷ s) zero b e = absurd (omega arith)
bytes_again (h ∷ l ∷ s) (suc n) b e =
    ap₂ ◌++◌ (bytes_own h l b.1.0) (ap words_bytes (shift_words h l s 0 n) ∙ bytes_again s n b.1.1 (omega arith))
