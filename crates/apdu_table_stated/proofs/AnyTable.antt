-- What comes of trying the rows of any table, each exactly when.
use Prim.Native.Nat.{ℕ, ◌<◌, ◌≤◌}
use mathlib.Core.Path.{◌≡◌, refl, ap, sym, subst, ◌∙◌}
use mathlib.Core.Bool.{Bool, true, false, true≢false}
use mathlib.Core.List.{List}
use mathlib.Core.Logic.{◌↔◌, ◌⊎◌, inl, inr}
use native.Mathlib.Omega.{arith}
use native.Mathlib.Decide.{dec_lt, ℕ_discrete}
use lib.ListN.{length, take}
use lib.Seq.{length-take-le}
use Rattle.outcome.specs.Outcome.{Outcome, SW, Gives, wrong_length}
use Rattle.outcome.proofs.Laws.{gives_same, word_gives}
use Rattle.octets.specs.Bytes.{AreBytes}
use Rattle.apdu_stated.proofs.Laws.{number_is, kind_is, place_is}
use Rattle.apdu_table_stated.specs.Words.{Says, Row, Tried, Ok, Err, UnderFour, Early, Beyond}
use Rattle.apdu_table_stated.specs.Trying.{stands, fits, claimed, row_end, in_turn, tried_of}
use Rattle.apdu_table_stated.specs.Answers.{says_by, answer_of, read_by_rows}
use Rattle.apdu_table_stated.specs.Terms.{OfRow, IsOf, OfTable, EarlyIn, Has, here, behind, First, this, later, MostClaimed, a_part, no_part}
use Rattle.apdu_table_stated.specs.Claims
use Rattle.apdu_table_stated.proofs.Columns
use Rattle.apdu_table_stated.proofs.FramesOfRows.{fit_of, said_of, of_fit, claimed_of, front_of, front_four, early_in, in_early}
use Rattle.apdu_table_stated.proofs.Turns.{Chosen, at_once, further, chosen_has, chosen_fits, Turn, chosen, short, past_all, turn}
use Rattle.apdu_table_stated.proofs.Agreement.{tried_short, tried_turn}

is_of : (r : Row) (frame : List ℕ) → AreBytes frame → fits r frame ≡ true → IsOf r frame
is_of r frame bytes e = let o = of_fit r frame bytes e in (says_by r frame, o.0, o.1)

-- the first row, in the claims' words and by the tests
first_row_of : {rows : List Row} {frame : List ℕ} {r : Row} → AreBytes frame → Chosen rows frame r → First rows frame r
first_row_of bytes (at_once {r} {rows} {frame} e) = this (is_of r frame bytes e)
first_row_of bytes (further {r} {x} {rows} {frame} e c) = later (λ o. true≢false (sym (fit_of x frame o) ∙ e)) (first_row_of bytes c)

first_long : {rows : List Row} {frame : List ℕ} {r : Row} → First rows frame r → 4 ≤ length frame
first_long (this {r} {rows} {frame} (says, content, o)) = front_four r frame content says o
first_long (later n f) = first_long f

pub first_row : {rows : List Row} {frame : List ℕ} {r : Row} → First rows frame r → IsOf r frame
first_row (this o) = o
first_row (later n f) = first_row f

pub first_has : {rows : List Row} {frame : List ℕ} {r : Row} → First rows frame r → Has rows r
first_has (this o) = here
first_has (later n f) = behind (first_has f)

of_first : {rows : List Row} {frame : List ℕ} {r : Row} → AreBytes frame → (early : Bool) (most : ℕ) → First rows frame r → in_turn rows frame early most ≡ Ok r
of_first bytes early most (this {r} {rows} {frame} o) = rw (fit_of r frame o)
of_first bytes early most (later {r} {x} {rows} {frame} n f) =
    rw (Columns.is_false (fits x frame) (λ e. n (is_of x frame bytes e))) (of_first bytes _ _ f)

-- two most are one
module _ (rows : List Row) (frame : List ℕ) where
  -- every row claims at most what is most claimed
  most_of : (k : ℕ) → AreBytes frame → MostClaimed rows frame k → (r : Row) → Has rows r → claimed r frame ≤ k
  most_of k bytes m r h = Columns.claimed_most r frame k (λ t. go m t (front_of frame bytes r t))
    where
      go : MostClaimed rows frame k → (t : Columns.Stands r frame) → ((content : List ℕ) × OfRow r (take (row_end r frame) frame) (says_by r frame) content) → row_end r frame ≤ k
      go (a_part l) t o = by (dec_lt k (row_end r frame))
        where
          by : Dec (k < row_end r frame) → row_end r frame ≤ k
          by (yes q) = absurd (l.longest (row_end r frame) (says_by r frame) o.0 q t.within (r, h, o.1))
          by (no q) = omega arith
      go (no_part z n) t o = absurd (n (row_end r frame) (says_by r frame) o.0 t.within (r, h, o.1))

  -- and it is claimed by a row, or it is 0
  claimed_by : (k : ℕ) → MostClaimed rows frame k → (k ≡ 0) ⊎ ((r : Row) × Has rows r × (claimed r frame ≡ k))
  claimed_by k (no_part z n) = inl z
  claimed_by k (a_part l) = let t = l.in_table in inr (t.2.0, t.2.1, claimed_of t.2.0 frame t.1 t.0 k l.within t.2.2)

  -- the most that the tests find is the claims'
  is_most : (k : ℕ) → AreBytes frame → ((r : Row) → Has rows r → claimed r frame ≤ k) → (k ≡ 0) ⊎ ((r : Row) × Has rows r × (claimed r frame ≡ k)) → MostClaimed rows frame k
  is_most k bytes bound at = go (ℕ_discrete k 0) at
    where
      over : (j : ℕ) (says : Says) (content : List ℕ) → j ≤ length frame → OfTable rows (take j frame) says content → j ≤ k
      over j says content h x = let c = claimed_of x.0 frame content says j h x.2 in let b = bound x.0 x.1 in omega arith

      four : (j : ℕ) (says : Says) (content : List ℕ) → j ≤ length frame → OfTable rows (take j frame) says content → 4 ≤ j
      four j says content h x = let f = front_four x.0 (take j frame) content says x.2 in let l = length-take-le j frame h in omega arith

      nothing : k ≡ 0 → MostClaimed rows frame k
      nothing z = no_part z (λ j says content h x. let a = over j says content h x in let b = four j says content h x in omega arith)

      go : Dec (k ≡ 0) → (k ≡ 0) ⊎ ((r : Row) × Has rows r × (claimed r frame ≡ k)) → MostClaimed rows frame k
      go (yes z) at = nothing z
      go (no n) (inl z) = nothing z
      go (no n) (inr (r, h, e)) = by (Columns.known (stands r frame))
        where
          by : Dec (stands r frame ≡ true) → MostClaimed rows frame k
          by (no q) = absurd (n (sym e ∙ Columns.claimed_not r frame (Columns.is_false (stands r frame) q)))
          by (yes q) =
              let t = Columns.stands_of r frame q in
              let is : row_end r frame ≡ k = sym (Columns.claimed_stands r frame q) ∙ e in
              let o = front_of frame bytes r t in
              a_part
              (record {
                within = omega (arith, t.within);
                in_table = (says_by r frame, o.0, (r, h, subst (λ (x : ℕ). OfRow r (take x frame) (says_by r frame) o.0) is o.1));
                longest = λ j says content more l x. let a = over j says content l x in omega arith;
              })

-- ---- the four answers
module _ (rows : List Row) (frame : List ℕ) where
  -- what was tried, by every way through it
  data Way : Tried → Type 0 where
    under : length frame < 4 → Way (Err UnderFour)
    by_turn : {t : Tried} → 4 ≤ length frame → Turn rows frame false 0 t → Way t

  way : Way (tried_of rows frame)
  way = go (dec_lt (length frame) 4)
    where
      go : Dec (length frame < 4) → Way (tried_of rows frame)
      go (yes h) = subst Way (sym (tried_short rows frame h)) (under h)
      go (no h) = subst Way (sym (tried_turn rows frame (omega arith))) (by_turn (omega arith) (turn rows frame false 0))

  is_short : (tried_of rows frame ≡ Err UnderFour) ↔ (length frame < 4)
  is_short = (λ e. go (tried_of rows frame) way e, tried_short rows frame)
    where
      never : (t : Tried) → Turn rows frame false 0 t → t ≡ Err UnderFour → length frame < 4
      never _ (chosen r c) e = let z : ◌≡◌ {A = ℕ} 0 1 = cc in absurd (omega arith)
      never _ (short n s) e = let z : ◌≡◌ {A = ℕ} 0 1 = cc in absurd (omega arith)
      never _ (past_all k n s l b a c) e = let z : ◌≡◌ {A = ℕ} 0 1 = cc in absurd (omega arith)

      go : (t : Tried) → Way t → t ≡ Err UnderFour → length frame < 4
      go _ (under h) e = h
      go _ (by_turn h t) e = never _ t e

  module _ (bytes : AreBytes frame) where
    fits_exactly : (r : Row) → (tried_of rows frame ≡ Ok r) ↔ First rows frame r
    fits_exactly r = (λ e. go (tried_of rows frame) way e, λ f. tried_turn rows frame (first_long f) ∙ of_first bytes false 0 f)
      where
        go : (t : Tried) → Way t → t ≡ Ok r → First rows frame r
        go _ (under h) e = let z : ◌≡◌ {A = ℕ} 0 1 = cc in absurd (omega arith)
        go _ (by_turn h (chosen x c)) e = let same : x ≡ r = cc in subst (First rows frame) same (first_row_of bytes c)
        go _ (by_turn h (short n s)) e = let z : ◌≡◌ {A = ℕ} 0 1 = cc in absurd (omega arith)
        go _ (by_turn h (past_all k n s l b a c)) e = let z : ◌≡◌ {A = ℕ} 0 1 = cc in absurd (omega arith)

    early_exactly : (tried_of rows frame ≡ Err Early) ↔ ((4 ≤ length frame) × ((r : Row) → Has rows r → IsOf r frame → ⊥) × ((r : Row) × Has rows r × EarlyIn r frame))
    early_exactly = (λ e. go (tried_of rows frame) way e, λ x. back (tried_of rows frame) way x.0 x.1 x.2)
      where
        go : (t : Tried) → Way t → t ≡ Err Early → (4 ≤ length frame) × ((r : Row) → Has rows r → IsOf r frame → ⊥) × ((r : Row) × Has rows r × EarlyIn r frame)
        go _ (under h) e = let z : ◌≡◌ {A = ℕ} 0 1 = cc in absurd (omega arith)
        go _ (by_turn h (chosen x c)) e = let z : ◌≡◌ {A = ℕ} 0 1 = cc in absurd (omega arith)
        go _ (by_turn h (short n (inl s))) e = absurd (true≢false (sym s))
        go _ (by_turn h (short n (inr s))) e = (h, λ r m o. true≢false (sym (fit_of r frame o) ∙ n r m), (s.0, s.1, early_in s.0 frame h s.2))
        go _ (by_turn h (past_all k n s l b a c)) e = let z : ◌≡◌ {A = ℕ} 0 1 = cc in absurd (omega arith)

        back : (t : Tried) → Way t → 4 ≤ length frame → ((r : Row) → Has rows r → IsOf r frame → ⊥) → ((r : Row) × Has rows r × EarlyIn r frame) → t ≡ Err Early
        back _ (under h) l n x = absurd (omega arith)
        back _ (by_turn h (chosen r c)) l n x = absurd (n r (chosen_has c) (is_of r frame bytes (chosen_fits c)))
        back _ (by_turn h (short m s)) l n x = refl
        back _ (by_turn h (past_all k m s no_early b a c)) l n x = absurd (true≢false (sym (in_early x.0 frame h x.2) ∙ no_early x.0 x.1))

    goes_on_exactly : (k : ℕ) → (tried_of rows frame ≡ Err (Beyond k)) ↔ ((4 ≤ length frame) × ((r : Row) → Has rows r → EarlyIn r frame → ⊥) × (k < length frame) × MostClaimed rows frame k)
    goes_on_exactly k = (λ e. go (tried_of rows frame) way e, λ x. back (tried_of rows frame) way x.0 x.1 x.2 x.3)
      where
        -- the most is not all: a row that claims all fits
        not_all : (m : ℕ) → 4 ≤ length frame → ((r : Row) → Has rows r → fits r frame ≡ false) → (m ≡ 0) ⊎ ((r : Row) × Has rows r × (claimed r frame ≡ m)) → m ≡ length frame → ⊥
        not_all m h n (inl z) e = omega arith
        not_all m h n (inr (r, i, c)) e = true≢false (sym (Columns.claimed_all r frame (omega arith) (c ∙ e)) ∙ n r i)

        go : (t : Tried) → Way t → t ≡ Err (Beyond k) → (4 ≤ length frame) × ((r : Row) → Has rows r → EarlyIn r frame → ⊥) × (k < length frame) × MostClaimed rows frame k
        go _ (under h) e = let z : ◌≡◌ {A = ℕ} 0 1 = cc in absurd (omega arith)
        go _ (by_turn h (chosen x c)) e = let z : ◌≡◌ {A = ℕ} 0 1 = cc in absurd (omega arith)
        go _ (by_turn h (short n s)) e = let z : ◌≡◌ {A = ℕ} 0 1 = cc in absurd (omega arith)
        go _ (by_turn h (past_all m n s no_early b bound at)) e =
            let same : m ≡ k = cc in
            let most = is_most rows frame m bytes bound at in
            let differs = not_all m h n at in
            let under = within m at in
            (h, λ r i x. true≢false (sym (in_early r frame h x) ∙ no_early r i), below m (within m at) differs same, subst (MostClaimed rows frame) same most)
          where
            within : (m : ℕ) → (m ≡ 0) ⊎ ((r : Row) × Has rows r × (claimed r frame ≡ m)) → m ≤ length frame
            within m (inl z) = omega arith
            within m (inr (r, i, c)) = let l = Columns.claimed_most r frame (length frame) (λ t. t.within) in omega arith

            below : (m : ℕ) → m ≤ length frame → (m ≡ length frame → ⊥) → m ≡ k → k < length frame
            below m l d same = omega arith

        back : (t : Tried) → Way t → 4 ≤ length frame → ((r : Row) → Has rows r → EarlyIn r frame → ⊥) → k < length frame → MostClaimed rows frame k → t ≡ Err (Beyond k)
        back _ (under h) l n less most = absurd (omega arith)
        back _ (by_turn h (chosen r c)) l n less most =
            let fit = Columns.fits_of r frame (chosen_fits c) in
            let all = Columns.claimed_stands r frame (Columns.of_stands r frame fit.0) in
            let bound = most_of rows frame k bytes most r (chosen_has c) in
            absurd (omega (arith, fit.1))
        back _ (by_turn h (short m (inl s))) l n less most = absurd (true≢false (sym s))
        back _ (by_turn h (short m (inr s))) l n less most = absurd (n s.0 s.1 (early_in s.0 frame h s.2))
        back _ (by_turn h (past_all m no_fit s no_early b bound at)) l n less most = ap (λ (n : ℕ). Err (Beyond n)) (same at (claimed_by rows frame k most))
          where
            up : (a b : ℕ) → ((r : Row) → Has rows r → claimed r frame ≤ b) → (a ≡ 0) ⊎ ((r : Row) × Has rows r × (claimed r frame ≡ a)) → a ≤ b
            up a b f (inl z) = omega arith
            up a b f (inr (r, i, c)) = let q = f r i in omega arith

            same : (m ≡ 0) ⊎ ((r : Row) × Has rows r × (claimed r frame ≡ m)) → (k ≡ 0) ⊎ ((r : Row) × Has rows r × (claimed r frame ≡ k)) → m ≡ k
            same p q = let x = up m k (most_of rows frame k bytes most) p in let y = up k m bound q in omega arith

pub tries_exactly : Claims.TriesExactly tried_of
tries_exactly = record { short = is_short; by_row = fits_exactly; early = early_exactly; beyond = goes_on_exactly }

-- whatever meets the claim is `tried_of`
pub same_tries : (try : List Row → List ℕ → Tried) → Claims.TriesExactly try → (rows : List Row) (frame : List ℕ) → AreBytes frame → try rows frame ≡ tried_of rows frame
same_tries try x rows frame bytes = go (tried_of rows frame) refl
  where
    go : (t : Tried) → tried_of rows frame ≡ t → try rows frame ≡ t
    go (Err UnderFour) e = (x.short rows frame).1 ((tries_exactly.short rows frame).0 e)
    go (Ok r) e = (x.by_row rows frame bytes r).1 ((tries_exactly.by_row rows frame bytes r).0 e)
    go (Err Early) e = (x.early rows frame bytes).1 ((tries_exactly.early rows frame bytes).0 e)
    go (Err (Beyond k)) e = (x.beyond rows frame bytes k).1 ((tries_exactly.beyond rows frame bytes k).0 e)

-- ---- what is answered, each exactly when
module _ (rows : List Row) (frame : List ℕ) where
  answer_of_lem : (t : Tried) → tried_of rows frame ≡ t → answer_of frame t ≡ read_by_rows rows frame
  unfolding read_by_rows
  answer_of_lem t e = ap (answer_of frame) (sym e)

  short_answer : (read_by_rows rows frame ≡ SW 0x6a80) ↔ (length frame < 4)
  short_answer = (λ e. go (tried_of rows frame) refl e, λ h. sym (answer_of_lem (Err UnderFour) ((is_short rows frame).1 h)))
    where
      go : (t : Tried) → tried_of rows frame ≡ t → read_by_rows rows frame ≡ SW 0x6a80 → length frame < 4
      go (Err UnderFour) t e = (is_short rows frame).0 t
      go (Ok r) t e = absurd (word_gives _ _ (sym (answer_of_lem (Ok r) t ∙ e)))
      go (Err Early) t e = let n = number_is _ _ (answer_of_lem (Err Early) t ∙ e) in absurd (omega arith)
      go (Err (Beyond k)) t e = let n = number_is _ _ (answer_of_lem (Err (Beyond k)) t ∙ e) in absurd (omega arith)

  module _ (bytes : AreBytes frame) where
    reads_answer : (says : Says) → (read_by_rows rows frame ≡ Gives says) ↔ ((r : Row) × (content : List ℕ) × First rows frame r × OfRow r frame says content)
    reads_answer says = (λ e. go (tried_of rows frame) refl e, back)
      where
        go : (t : Tried) → tried_of rows frame ≡ t → read_by_rows rows frame ≡ Gives says → (r : Row) × (content : List ℕ) × First rows frame r × OfRow r frame says content
        go (Err UnderFour) t e = absurd (word_gives _ _ (answer_of_lem (Err UnderFour) t ∙ e))
        go (Ok r) t e =
            let f = (fits_exactly rows frame bytes r).0 t in
            let o = first_row f in
            let same : o.0 ≡ says = sym (said_of r frame o.1 o.0 o.2) ∙ gives_same _ _ (answer_of_lem (Ok r) t ∙ e) in
            (r, o.1, f, subst (λ (s : Says). OfRow r frame s o.1) same o.2)
        go (Err Early) t e = absurd (word_gives _ _ (answer_of_lem (Err Early) t ∙ e))
        go (Err (Beyond k)) t e = absurd (word_gives _ _ (answer_of_lem (Err (Beyond k)) t ∙ e))

        back : ((r : Row) × (content : List ℕ) × First rows frame r × OfRow r frame says content) → read_by_rows rows frame ≡ Gives says
        back (r, content, f, o) = sym (answer_of_lem (Ok r) ((fits_exactly rows frame bytes r).1 f)) ∙ ap Gives (said_of r frame content says o)

    missing_answer : (k : ℕ) → (read_by_rows rows frame ≡ wrong_length 1 k)
        ↔ ((4 ≤ length frame) × ((r : Row) → Has rows r → IsOf r frame → ⊥) × ((r : Row) × Has rows r × EarlyIn r frame) × (k ≡ length frame))
    missing_answer k = (λ e. go (tried_of rows frame) refl e, back)
      where
        go : (t : Tried) → tried_of rows frame ≡ t → read_by_rows rows frame ≡ wrong_length 1 k
            → (4 ≤ length frame) × ((r : Row) → Has rows r → IsOf r frame → ⊥) × ((r : Row) × Has rows r × EarlyIn r frame) × (k ≡ length frame)
        go (Err UnderFour) t e = let n = number_is _ _ (answer_of_lem (Err UnderFour) t ∙ e) in absurd (omega arith)
        go (Ok r) t e = absurd (word_gives _ _ (sym (answer_of_lem (Ok r) t ∙ e)))
        go (Err Early) t e = let x = (early_exactly rows frame bytes).0 t in (x.0, x.1, x.2, sym (place_is _ _ (answer_of_lem (Err Early) t ∙ e)))
        go (Err (Beyond m)) t e = let n = kind_is _ _ (answer_of_lem (Err (Beyond m)) t ∙ e) in absurd (omega arith)

        back : ((4 ≤ length frame) × ((r : Row) → Has rows r → IsOf r frame → ⊥) × ((r : Row) × Has rows r × EarlyIn r frame) × (k ≡ length frame)) → read_by_rows rows frame ≡ wrong_length 1 k
        back (h, n, x, e) = sym (answer_of_lem (Err Early) ((early_exactly rows frame bytes).1 (h, n, x))) ∙ ap (wrong_length 1) (sym e)

    surplus_answer : (k : ℕ) → (read_by_rows rows frame ≡ wrong_length 2 k) ↔ ((4 ≤ length frame) × ((r : Row) → Has rows r → EarlyIn r frame → ⊥) × (k < length frame) × MostClaimed rows frame k)
    surplus_answer k = (λ e. go (tried_of rows frame) refl e, λ x. sym (answer_of_lem (Err (Beyond k)) ((goes_on_exactly rows frame bytes k).1 x)))
      where
        go : (t : Tried) → tried_of rows frame ≡ t → read_by_rows rows frame ≡ wrong_length 2 k → (4 ≤ length frame) × ((r : Row) → Has rows r → EarlyIn r frame → ⊥) × (k < length frame) × MostClaimed rows frame k
        go (Err UnderFour) t e = let n = number_is _ _ (answer_of_lem (Err UnderFour) t ∙ e) in absurd (omega arith)
        go (Ok r) t e = absurd (word_gives _ _ (sym (answer_of_lem (Ok r) t ∙ e)))
        go (Err Early) t e = let n = kind_is _ _ (answer_of_lem (Err Early) t ∙ e) in absurd (omega arith)
        go (Err (Beyond m)) t e = let same : m ≡ k = place_is _ _ (answer_of_lem (Err (Beyond m)) t ∙ e) in (goes_on_exactly rows frame bytes k).0 (t ∙ ap (λ (n : ℕ). Err (Beyond n)) same)

pub answers_exactly : Claims.AnswersExactly read_by_rows
answers_exactly = record { reads = reads_answer; short = short_answer; missing = missing_answer; surplus = surplus_answer }

-- whatever meets the claim is `read_by_rows`
pub same_answers : (read : List Row → List ℕ → Outcome Says) → Claims.AnswersExactly read → (rows : List Row) (frame : List ℕ) → AreBytes frame → read rows frame ≡ read_by_rows rows frame
same_answers read x rows frame bytes = go (tried_of rows frame) refl
  where
    go : (t : Tried) → tried_of rows frame ≡ t → read rows frame ≡ read_by_rows rows frame
    go (Err UnderFour) t = let e = sym (answer_of_lem rows frame (Err UnderFour) t) in (x.short rows frame).1 ((answers_exactly.short rows frame).0 e) ∙ sym e
    go (Ok r) t = let e = sym (answer_of_lem rows frame (Ok r) t) in (x.reads rows frame bytes _).1 ((answers_exactly.reads rows frame bytes _).0 e) ∙ sym e
    go (Err Early) t = let e = sym (answer_of_lem rows frame (Err Early) t) in (x.missing rows frame bytes _).1 ((answers_exactly.missing rows frame bytes _).0 e) ∙ sym e
    go (Err (Beyond k)) t = let e = sym (answer_of_lem rows frame (Err (Beyond k)) t) in (x.surplus rows frame bytes k).1 ((answers_exactly.surplus rows frame bytes k).0 e) ∙ sym e
