-- The rows in turn: every way through `in_turn`, with what it shows. Over any table.
use Prim.Native.Nat.{ℕ, ◌≤◌}
use mathlib.Core.Path.{◌≡◌, refl, sym, ◌∙◌}
use mathlib.Core.Bool.{Bool, true, false, ◌||◌, true≢false}
use mathlib.Core.List.{List, [], ◌∷◌}
use mathlib.Core.Logic.{◌⊎◌, inl, inr}
use native.Mathlib.Omega.{arith}
use lib.Dec.{ltb}
use borrow.Author.Tests.{ltb-true, ltb-false}
use Rattle.apdu_table_stated.specs.Words.{Row, Tried, Ok, Err, Early, Beyond}
use Rattle.apdu_table_stated.specs.Trying.{fits, ends_early, claimed, greater, in_turn}
use Rattle.apdu_table_stated.specs.Terms.{Has, here, behind}
use Rattle.apdu_table_stated.proofs.Columns.{either}

-- the first row that fits
pub data Chosen : List Row → List ℕ → Row → Type 0 where
  at_once : {r : Row} {rows : List Row} {frame : List ℕ} → fits r frame ≡ true → Chosen (r ∷ rows) frame r
  further : {r x : Row} {rows : List Row} {frame : List ℕ} → fits x frame ≡ false → Chosen rows frame r → Chosen (x ∷ rows) frame r

pub chosen_has : {rows : List Row} {frame : List ℕ} {r : Row} → Chosen rows frame r → Has rows r
chosen_has (at_once e) = here
chosen_has (further e c) = behind (chosen_has c)

pub chosen_fits : {rows : List Row} {frame : List ℕ} {r : Row} → Chosen rows frame r → fits r frame ≡ true
chosen_fits (at_once e) = e
chosen_fits (further e c) = chosen_fits c

pub data Turn (rows : List Row) (frame : List ℕ) (early : Bool) (most : ℕ) : Tried → Type 0 where
  chosen : (r : Row) → Chosen rows frame r → Turn rows frame early most (Ok r)
  short : ((r : Row) → Has rows r → fits r frame ≡ false) → (early ≡ true) ⊎ ((r : Row) × Has rows r × (ends_early r frame ≡ true)) → Turn rows frame early most (Err Early)
  past_all : (k : ℕ) → ((r : Row) → Has rows r → fits r frame ≡ false) → early ≡ false → ((r : Row) → Has rows r → ends_early r frame ≡ false)
      → most ≤ k → ((r : Row) → Has rows r → claimed r frame ≤ k) → (k ≡ most) ⊎ ((r : Row) × Has rows r × (claimed r frame ≡ k)) → Turn rows frame early most (Err (Beyond k))

-- the greater of two, by plain facts
pub record Greater (a b g : ℕ) : Type 0 where
  pub left : a ≤ g
  pub right : b ≤ g
  pub one : (g ≡ a) ⊎ (g ≡ b)

pub greater_is : (a b : ℕ) → Greater a b (greater a b)
greater_is a b = go (ltb a b) refl
  where
    go : (t : Bool) → ltb a b ≡ t → Greater a b (greater a b)
    go true e = let h = ltb-true a b e in rw e (record { left = omega arith; right = omega arith; one = inr refl })
    go false e = let h = ltb-false a b e in rw e (record { left = omega arith; right = omega arith; one = inl refl })

either_false : (a b : Bool) → (a || b) ≡ false → (a ≡ false) × (b ≡ false)
either_false true b e = absurd (true≢false e)
either_false false b e = (refl, e)

module _ (r : Row) (rows : List Row) (frame : List ℕ) (early : Bool) (most : ℕ) (misfit : fits r frame ≡ false) where
  -- of the first row, and of the others
  each : (P : Row → Type 0) → P r → ((x : Row) → Has rows x → P x) → (x : Row) → Has (r ∷ rows) x → P x
  each P first others x here = first
  each P first others x (behind h) = others x h

  step : {t : Tried} → Turn rows frame (early || ends_early r frame) (greater most (claimed r frame)) t → Turn (r ∷ rows) frame early most t
  step (chosen x c) = chosen x (further misfit c)
  step (short no_fit ends) = short (each (λ (x : Row). fits x frame ≡ false) misfit no_fit) (go ends)
    where
      own : (early ≡ true) ⊎ (ends_early r frame ≡ true) → (early ≡ true) ⊎ ((x : Row) × Has (r ∷ rows) x × (ends_early x frame ≡ true))
      own (inl e) = inl e
      own (inr e) = inr (r, here, e)

      go : ((early || ends_early r frame) ≡ true) ⊎ ((x : Row) × Has rows x × (ends_early x frame ≡ true)) → (early ≡ true) ⊎ ((x : Row) × Has (r ∷ rows) x × (ends_early x frame ≡ true))
      go (inl e) = own (either early (ends_early r frame) e)
      go (inr x) = inr (x.0, behind x.1, x.2)
  step (past_all k no_fit e no_early low bound at) =
      let g = greater_is most (claimed r frame) in
      let b = either_false early (ends_early r frame) e in
      past_all k (each (λ (x : Row). fits x frame ≡ false) misfit no_fit) b.0 (each (λ (x : Row). ends_early x frame ≡ false) b.1 no_early) (omega arith)
      (each (λ (x : Row). claimed x frame ≤ k) (omega arith) bound) (go at g.one)
    where
      go : (k ≡ greater most (claimed r frame)) ⊎ ((x : Row) × Has rows x × (claimed x frame ≡ k)) → (greater most (claimed r frame) ≡ most) ⊎ (greater most (claimed r frame) ≡ claimed r frame)
          → (k ≡ most) ⊎ ((x : Row) × Has (r ∷ rows) x × (claimed x frame ≡ k))
      go (inl e) (inl m) = inl (e ∙ m)
      go (inl e) (inr m) = inr (r, here, sym (e ∙ m))
      go (inr x) m = inr (x.0, behind x.1, x.2)

pub no_row : {r : Row} → Has [] r → ⊥
no_row h = elim h [ ]

pub turn : (rows : List Row) (frame : List ℕ) (early : Bool) (most : ℕ) → Turn rows frame early most (in_turn rows frame early most)
turn [] frame true most = short (λ r h. absurd (no_row h)) (inl refl)
turn [] frame false most = past_all most (λ r h. absurd (no_row h)) refl (λ r h. absurd (no_row h)) (omega arith) (λ r h. absurd (no_row h)) (inl refl)
turn (r ∷ rows) frame early most = go (turn rows frame (early || ends_early r frame) (greater most (claimed r frame))) (fits r frame) refl
  where
    go : Turn rows frame (early || ends_early r frame) (greater most (claimed r frame)) (in_turn rows frame (early || ends_early r frame) (greater most (claimed r frame)))
        → (b : Bool) → fits r frame ≡ b → Turn (r ∷ rows) frame early most (in_turn (r ∷ rows) frame early most)
    go others true e = rw e (chosen r (at_once e))
    go others false e = rw e (step r rows frame early most e others)
