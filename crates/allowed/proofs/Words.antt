-- A test of words in the place of a test of the numbers that they stand for. Assumes nothing.
use mathlib.Core.Path.{◌≡◌, refl, sym, ap, ◌∙◌}
use Rattle.std.proofs.Common.{◌||◌, nat_eq}
use Rattle.std.specs.List.{list_any}
use mathlib.Core.Bool.{Bool, true, false, false≢true}
use mathlib.Core.List.{List, [], ◌∷◌, map}
use Prim.Native.Nat.{ℕ, zero, suc, ◌+◌, ◌-◌, ◌%◌, ◌≤◌, ◌<◌}
use native.Mathlib.Omega.{arith}
use borrow.Author.Tests.{lt-ltb, le-ltb, le-leb, lt-leb, eq-eqb, ne_eqb, eqb-true, leb-true, ltb-true, ltb-false}
use lib.Dec.{eqb, leb, ltb}
use lib.ListN.{length}
use lib.IntN.{ℤ, pos, negsuc, neg_ℤ}
use lib.Signed.{le_z, lt_z}
use Rattle.base.specs.Choice.{pick, both, either}
use Rattle.base.proofs.Tests.{same_test, both_false, both_out}
use Rattle.allowed.specs.Words.{narrow, rank_of, listed}
use Rattle.allowed.specs.Allowed.{twos, integer_of, eq_z, member, within, below_limt, above_magn, about, at_mode, setpoint_allows, allows, allowed_at}
use Rattle.base.proofs.Arms.{NoneOf, up_from, past}
use Rattle.table.specs.Table.{rows, line_at, these}
use Rattle.table.specs.declared.lines.Allowed.TheVariants.{Between, BelowLimt, AboveMagn, ByMode}
use Rattle.table.proofs.Columns.{from_inv_st}
use Rattle.allowed.specs.declared.Bounds.{Bounds}

-- ---- the numbers in their order, from −32768 on
abbrev pub numbered : ℕ → ℤ
numbered k = pick (ltb k 0x8000) (negsuc (0x7FFF - k)) (pos (k - 0x8000))

-- the order of the numbers is that of their ranks
module _ (a b : ℕ) where
  pub le_ranks : le_z (numbered a) (numbered b) ≡ leb a b
  le_ranks = go (ltb a 0x8000) (ltb b 0x8000) refl refl
    where
      go : (s t : Bool) → ltb a 0x8000 ≡ s → ltb b 0x8000 ≡ t
          → le_z (pick s (negsuc (0x7FFF - a)) (pos (a - 0x8000))) (pick t (negsuc (0x7FFF - b)) (pos (b - 0x8000))) ≡ leb a b
      go true true p q =
          let l : a < 0x8000 = ltb-true a 0x8000 p in
          let m : b < 0x8000 = ltb-true b 0x8000 q in
          same_test (leb (0x7FFF - b) (0x7FFF - a)) (leb a b)
          (λ e. le-leb a b (omega (arith, leb-true (0x7FFF - b) (0x7FFF - a) e)))
          (λ e. le-leb (0x7FFF - b) (0x7FFF - a) (omega (arith, leb-true a b e)))
      go true false p q = sym (le-leb a b (omega (arith, ltb-true a 0x8000 p, ltb-false b 0x8000 q)))
      go false true p q = sym (lt-leb a b (omega (arith, ltb-false a 0x8000 p, ltb-true b 0x8000 q)))
      go false false p q =
          let l : 0x8000 ≤ a = ltb-false a 0x8000 p in
          let m : 0x8000 ≤ b = ltb-false b 0x8000 q in
          same_test (leb (a - 0x8000) (b - 0x8000)) (leb a b)
          (λ e. le-leb a b (omega (arith, leb-true (a - 0x8000) (b - 0x8000) e)))
          (λ e. le-leb (a - 0x8000) (b - 0x8000) (omega (arith, leb-true a b e)))

  pub lt_ranks : lt_z (numbered a) (numbered b) ≡ ltb a b
  lt_ranks = go (ltb a 0x8000) (ltb b 0x8000) refl refl
    where
      go : (s t : Bool) → ltb a 0x8000 ≡ s → ltb b 0x8000 ≡ t
          → lt_z (pick s (negsuc (0x7FFF - a)) (pos (a - 0x8000))) (pick t (negsuc (0x7FFF - b)) (pos (b - 0x8000))) ≡ ltb a b
      go true true p q =
          let l : a < 0x8000 = ltb-true a 0x8000 p in
          let m : b < 0x8000 = ltb-true b 0x8000 q in
          same_test (ltb (0x7FFF - b) (0x7FFF - a)) (ltb a b)
          (λ e. lt-ltb a b (omega (arith, ltb-true (0x7FFF - b) (0x7FFF - a) e)))
          (λ e. lt-ltb (0x7FFF - b) (0x7FFF - a) (omega (arith, ltb-true a b e)))
      go true false p q = sym (lt-ltb a b (omega (arith, ltb-true a 0x8000 p, ltb-false b 0x8000 q)))
      go false true p q = sym (le-ltb a b (omega (arith, ltb-false a 0x8000 p, ltb-true b 0x8000 q)))
      go false false p q =
          let l : 0x8000 ≤ a = ltb-false a 0x8000 p in
          let m : 0x8000 ≤ b = ltb-false b 0x8000 q in
          same_test (ltb (a - 0x8000) (b - 0x8000)) (ltb a b)
          (λ e. lt-ltb a b (omega (arith, ltb-true (a - 0x8000) (b - 0x8000) e)))
          (λ e. lt-ltb (a - 0x8000) (b - 0x8000) (omega (arith, ltb-true a b e)))

-- the ranks of m and −m
pos_rank : (m : ℕ) → pos m ≡ numbered (0x8000 + m)
pos_rank m = let k : m ≡ 0x8000 + m - 0x8000 = omega arith in simp (le-ltb (0x8000 + m) 0x8000 (omega arith)) (ap pos k)

neg_rank : (m : ℕ) → m < 0x8000 → neg_ℤ (pos m) ≡ numbered (0x8000 - m)
neg_rank zero h = refl
neg_rank (suc n) h =
    let k : n ≡ 0x7FFF - (0x8000 - suc n) = omega arith in
    simp (lt-ltb (0x8000 - suc n) 0x8000 (omega arith)) (ap negsuc k)

-- the number of a word by the word's rank
word_rank : (x : ℕ) → x < 0x10000 → twos 0x8000 x ≡ numbered ((x + 0x8000) % 0x10000)
unfolding twos
word_rank x h = go (ltb x 0x8000) refl
  where
    go : (t : Bool) → ltb x 0x8000 ≡ t → pick (ltb x 0x8000) (pos x) (negsuc (0x10000 - suc x)) ≡ numbered ((x + 0x8000) % 0x10000)
    go true q =
        let l : x < 0x8000 = ltb-true x 0x8000 q in
        let k : (x + 0x8000) % 0x10000 ≡ 0x8000 + x = omega arith in
        simp q (rw k (pos_rank x))
    go false q =
        let l : 0x8000 ≤ x = ltb-false x 0x8000 q in
        let k : (x + 0x8000) % 0x10000 ≡ x - 0x8000 = omega arith in
        let n : 0x10000 - suc x ≡ 0x7FFF - (x - 0x8000) = omega arith in
        simp (q, k, lt-ltb (x - 0x8000) 0x8000 (omega arith)) (ap negsuc n)

number_rank : (w : ℕ) → integer_of w ≡ numbered (rank_of w)
unfolding integer_of rank_of
number_rank w = word_rank (w % 0x10000) (omega arith)

-- a test of a 16-bit row's word
pub too_wide : (test : ℤ → Bool) (w : ℕ) → 0x10000 ≤ w → false ≡ narrow test w
unfolding narrow
too_wide test w h = simp (le-ltb w 0x10000 h)

narrow_rank : (test : ℤ → Bool) (w : ℕ) → w < 0x10000 → narrow test w ≡ test (numbered (rank_of w))
unfolding narrow rank_of
narrow_rank test w h =
    let k : w % 0x10000 ≡ w = omega arith in
    simp (lt-ltb w 0x10000 h, k) (ap test (word_rank w h))

-- ---- the rules that ask for the order of numbers
pub about_is : (m w k : ℕ) (r : Bool) → m < 0x8000 → w < 0x10000 → k ≡ rank_of w → r ≡ both (leb (0x8000 - m) k) (leb k (0x8000 + m)) → r ≡ narrow (about m) w
unfolding within
about_is m w k r h l e q =
    q ∙ sym (narrow_rank (about m) w l ∙ rw (← e, neg_rank m h, pos_rank m, le_ranks (0x8000 - m) k, le_ranks k (0x8000 + m)))

-- a word from 8000h on stands for a number below 0, or for none
pub limt_below : (limt w : ℕ) → 0x8000 ≤ w → false ≡ narrow (below_limt limt) w
unfolding narrow below_limt twos
limt_below limt w h = go (ltb w 0x10000)
  where
    go : (t : Bool) → false ≡ pick t (both (le_z (pos 0) (pick (ltb w 0x8000) (pos w) (negsuc (0x10000 - suc w)))) (lt_z (pick (ltb w 0x8000) (pos w) (negsuc (0x10000 - suc w))) (integer_of limt))) false
    go true = simp (le-ltb w 0x8000 h)
    go false = refl

low_rank : (w : ℕ) → w < 0x8000 → 0x8000 ≤ rank_of w
unfolding rank_of
low_rank w h = omega arith

pub limt_is : (limt w k top : ℕ) (r : Bool) → w < 0x8000 → k ≡ rank_of w → top ≡ rank_of limt → r ≡ ltb k top → r ≡ narrow (below_limt limt) w
unfolding below_limt
limt_is limt w k top r h e d q =
    let l : 0x8000 ≤ rank_of w = low_rank w h in
    q ∙ sym (narrow_rank (below_limt limt) w (omega arith) ∙ rw (number_rank limt, ← e, ← d, lt_ranks k top, pos_rank 0, le_ranks 0x8000 k) (simp (le-leb 0x8000 k (rw e l))))

module _ (magn top w bottom k : ℕ) (l : w < 0x10000) (d : bottom ≡ rank_of magn) (e : k ≡ rank_of w) where
  magn_rank : narrow (above_magn magn (pos top)) w ≡ both (ltb bottom k) (leb k (0x8000 + top))
  unfolding above_magn
  magn_rank = narrow_rank (above_magn magn (pos top)) w l ∙ rw (number_rank magn, ← e, ← d, lt_ranks bottom k, pos_rank top, le_ranks k (0x8000 + top))

  pub magn_above : (r : Bool) → bottom < k → r ≡ leb k (0x8000 + top) → r ≡ narrow (above_magn magn (pos top)) w
  magn_above r h q = q ∙ sym (magn_rank ∙ simp (lt-ltb bottom k h))

  pub magn_below : k ≤ bottom → false ≡ narrow (above_magn magn (pos top)) w
  magn_below h = sym (magn_rank ∙ simp (le-ltb bottom k h))

-- Setpoint: at each Mode of its own range, and at any other
pub setpoint_at : (mode k m w : ℕ) (r : Bool) → mode % 0x10000 ≡ k → ((z : ℤ) → about m z ≡ at_mode k z) → r ≡ narrow (about m) w → r ≡ narrow (setpoint_allows mode) w
unfolding narrow setpoint_allows
setpoint_at mode k m w r h d e = e ∙ ap (λ (b : Bool). pick (ltb w 0x10000) b false) (d (twos 0x8000 w) ∙ ap (λ (n : ℕ). at_mode n (twos 0x8000 w)) (sym h))

pub setpoint_none : (mode w : ℕ) → NoneOf (mode % 0x10000) (up_from 0 4) → false ≡ narrow (setpoint_allows mode) w
unfolding narrow setpoint_allows at_mode
setpoint_none mode w h =
    simp (ne_eqb (mode % 0x10000) 0 h.0, ne_eqb (mode % 0x10000) 1 h.1.0, ne_eqb (mode % 0x10000) 2 h.1.1.0, ne_eqb (mode % 0x10000) 3 h.1.1.1.0)
    (go (ltb w 0x10000))
  where
    go : (t : Bool) → false ≡ pick t false false
    go true = refl
    go false = refl

-- ---- the rules that words can be asked directly
-- lo..hi, of a 16-bit row and of one of 32 bits: a word whose number is below 0 is above hi
range_twos : (half lo hi w : ℕ) → hi < half → both (leb lo w) (leb w hi) ≡ within (pos lo) (pos hi) (twos half w)
unfolding within twos
range_twos half lo hi w h = go (ltb w half) refl
  where
    go : (t : Bool) → ltb w half ≡ t → both (leb lo w) (leb w hi) ≡ both (le_z (pos lo) (pick t (pos w) (negsuc (half + half - suc w)))) (le_z (pick t (pos w) (negsuc (half + half - suc w))) (pos hi))
    go true q = refl
    go false q = let l : half ≤ w = ltb-false w half q in simp (lt-leb w hi (omega arith)) (both_false (leb lo w))

range_narrow : (lo hi w : ℕ) → hi < 0x8000 → both (leb lo w) (leb w hi) ≡ narrow (within (pos lo) (pos hi)) w
unfolding narrow
range_narrow lo hi w h = go (ltb w 0x10000) refl
  where
    go : (t : Bool) → ltb w 0x10000 ≡ t → both (leb lo w) (leb w hi) ≡ pick t (within (pos lo) (pos hi) (twos 0x8000 w)) false
    go true q = range_twos 0x8000 lo hi w h
    go false q = let l : 0x10000 ≤ w = ltb-false w 0x10000 q in simp (lt-leb w hi (omega arith)) (both_false (leb lo w))

-- two words of a 16-bit row stand for the same number where they are the same
eq_words : (a b : ℕ) → a < 0x10000 → b < 0x10000 → eqb a b ≡ eq_z (twos 0x8000 a) (twos 0x8000 b)
unfolding twos
eq_words a b ha hb = go (ltb a 0x8000) (ltb b 0x8000) refl refl
  where
    go : (s t : Bool) → ltb a 0x8000 ≡ s → ltb b 0x8000 ≡ t
        → eqb a b ≡ eq_z (pick s (pos a) (negsuc (0x10000 - suc a))) (pick t (pos b) (negsuc (0x10000 - suc b)))
    go true true p q = refl
    go true false p q = ne_eqb a b (λ e. omega (arith, ltb-true a 0x8000 p, ltb-false b 0x8000 q))
    go false true p q = ne_eqb a b (λ e. omega (arith, ltb-false a 0x8000 p, ltb-true b 0x8000 q))
    go false false p q =
        same_test (eqb a b) (eqb (0x10000 - suc a) (0x10000 - suc b))
        (λ e. eq-eqb (0x10000 - suc a) (0x10000 - suc b) (ap (λ (n : ℕ). 0x10000 - suc n) (eqb-true a b e)))
        (λ e. eq-eqb a b (omega (arith, eqb-true (0x10000 - suc a) (0x10000 - suc b) e)))

-- a word is listed where one of the list is the same
pub listed_any : (w : ℕ) (words : List ℕ) → listed w words ≡ list_any (λ (a : ℕ). nat_eq a w) words
unfolding listed
listed_any w [] = refl
listed_any w (a ∷ rest) = go (eqb w a) (nat_eq a w) (same_test (eqb w a) (nat_eq a w) (λ e. eq-eqb a w (omega (arith, eqb-true w a e))) (λ e. eq-eqb w a (omega (arith, eqb-true a w e)))) (listed_any w rest)
  where
    go : (s t : Bool) → s ≡ t → listed w rest ≡ list_any (λ (b : ℕ). nat_eq b w) rest → either s (listed w rest) ≡ (t || list_any (λ (b : ℕ). nat_eq b w) rest)
    go true true p q = refl
    go false false p q = q
    go true false p q = absurd (false≢true (sym p))
    go false true p q = absurd (false≢true p)

-- each is a 16-bit word
abbrev pub short : List ℕ → Bool
short [] = true
short (a ∷ rest) = both (ltb a 0x10000) (short rest)

list_narrow : (w : ℕ) (words : List ℕ) → short words ≡ true → listed w words ≡ narrow (λ (v : ℤ). member v (map (twos 0x8000) words)) w
unfolding narrow member listed
list_narrow w words h = go (ltb w 0x10000) refl
  where
    same : (words : List ℕ) → short words ≡ true → w < 0x10000 → listed w words ≡ member (twos 0x8000 w) (map (twos 0x8000) words)
    same [] h l = refl
    same (a ∷ rest) h l =
        let k = both_out (ltb a 0x10000) (short rest) h in
        rw (eq_words w a l (ltb-true a 0x10000 k.0), same rest k.1 l)

    none : (words : List ℕ) → short words ≡ true → 0x10000 ≤ w → listed w words ≡ false
    none [] h l = refl
    none (a ∷ rest) h l =
        let k = both_out (ltb a 0x10000) (short rest) h in
        simp (ne_eqb w a (λ e. omega (arith, ltb-true a 0x10000 k.0))) (none rest k.1 l)

    go : (t : Bool) → ltb w 0x10000 ≡ t → listed w words ≡ pick t (member (twos 0x8000 w) (map (twos 0x8000) words)) false
    go true q = same words h (ltb-true w 0x10000 q)
    go false q = none words h (ltb-false w 0x10000 q)

-- a column in which one to four numbers stand, the last of them again where there are fewer, allows these numbers
these_allow : (words : List ℕ) (by : Bounds) (v : ℤ) → leb (length words) 4 ≡ true → member v (map (twos 0x8000) words) ≡ allows (these (map (twos 0x8000) words)) by v
unfolding member allows
these_allow [] by v h = refl
these_allow (a ∷ []) by v h = again (eq_z v (twos 0x8000 a))
  where
    again : (t : Bool) → either t false ≡ either t (either t (either t (either t false)))
    again true = refl
    again false = refl
these_allow (a ∷ b ∷ []) by v h = ap (either (eq_z v (twos 0x8000 a))) (again (eq_z v (twos 0x8000 b)))
  where
    again : (t : Bool) → either t false ≡ either t (either t (either t false))
    again true = refl
    again false = refl
these_allow (a ∷ b ∷ c ∷ []) by v h = ap (λ (t : Bool). either (eq_z v (twos 0x8000 a)) (either (eq_z v (twos 0x8000 b)) t)) (again (eq_z v (twos 0x8000 c)))
  where
    again : (t : Bool) → either t false ≡ either t (either t false)
    again true = refl
    again false = refl
these_allow (a ∷ b ∷ c ∷ d ∷ []) by v h = refl
these_allow (a ∷ b ∷ c ∷ d ∷ e ∷ more) by v h = absurd (omega (arith, leb-true (length (a ∷ b ∷ c ∷ d ∷ e ∷ more)) 4 h))

-- ---- the rows: what the row's line says, and what the call for its rule told
module _ (row k w : ℕ) (by : Bounds) (r : Bool) (at : row ≡ k) where
  by_rule : (line_at k).registers ≡ 1 → r ≡ narrow (allows (line_at k).allowed by) w → r ≡ allowed_at row by w
  unfolding allowed_at narrow
  by_rule one e = rw at (simp one e)

  pub row_range : (lo hi : ℕ) → r ≡ both (leb lo w) (leb w hi) → (line_at k).registers ≡ 1 → (line_at k).allowed ≡ Between (pos lo) (pos hi) → ltb hi 0x8000 ≡ true
      → r ≡ allowed_at row by w
  unfolding allows
  row_range lo hi e one rule h = by_rule one (e ∙ range_narrow lo hi w (ltb-true hi 0x8000 h) ∙ rw rule)

  pub row_wide : (lo hi : ℕ) → r ≡ both (leb lo w) (leb w hi) → (line_at k).registers ≡ 2 → (line_at k).allowed ≡ Between (pos lo) (pos hi) → ltb hi 0x80000000 ≡ true
      → r ≡ allowed_at row by w
  unfolding allowed_at allows
  row_wide lo hi e two rule h = rw at (simp (two, rule) (e ∙ range_twos 0x80000000 lo hi w (ltb-true hi 0x80000000 h)))

  pub row_list : (words : List ℕ) → r ≡ listed w words → (line_at k).registers ≡ 1 → (line_at k).allowed ≡ these (map (twos 0x8000) words) → leb (length words) 4 ≡ true → short words ≡ true
      → r ≡ allowed_at row by w
  unfolding narrow
  row_list words e one rule few h =
      by_rule one (e ∙ list_narrow w words h ∙ rw rule (ap (λ (t : Bool). pick (ltb w 0x10000) t false) (these_allow words by (twos 0x8000 w) few)))

  pub row_about : (m : ℕ) → r ≡ narrow (about m) w → (line_at k).registers ≡ 1 → (line_at k).allowed ≡ Between (neg_ℤ (pos m)) (pos m) → r ≡ allowed_at row by w
  unfolding allows
  row_about m e one rule = by_rule one (e ∙ rw rule)

  pub row_limt : r ≡ narrow (below_limt by.limt) w → (line_at k).registers ≡ 1 → (line_at k).allowed ≡ BelowLimt → r ≡ allowed_at row by w
  unfolding allows
  row_limt e one rule = by_rule one (e ∙ rw rule)

  pub row_magn : (top : ℕ) → r ≡ narrow (above_magn by.magn (pos top)) w → (line_at k).registers ≡ 1 → (line_at k).allowed ≡ AboveMagn (pos top) → r ≡ allowed_at row by w
  unfolding allows
  row_magn top e one rule = by_rule one (e ∙ rw rule)

  pub row_setpoint : r ≡ narrow (setpoint_allows by.mode) w → (line_at k).registers ≡ 1 → (line_at k).allowed ≡ ByMode → r ≡ allowed_at row by w
  unfolding allows
  row_setpoint e one rule = by_rule one (e ∙ rw rule)

-- the rows past SCMD allow nothing
pub past_scmd : (n w : ℕ) (by : Bounds) → NoneOf n (up_from 0 24) → false ≡ allowed_at n by w
unfolding allowed_at allows line_at rows
past_scmd n w by h = rw (← from_inv_st (λ l. l.allowed) n refl (past 24 0 n (omega arith) h)) (go (eqb (line_at n).registers 2) (ltb w 0x10000))
  where
    go : (s t : Bool) → false ≡ pick s false (pick t false false)
    go true t = refl
    go false true = refl
    go false false = refl
