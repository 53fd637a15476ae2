-- Each case of `sheet_of` and `needed_of`, in the form that the functions return them, and every way through `sheet_of`.
use Prim.Native.Nat.{ℕ, ◌+◌, ◌<◌, ◌≤◌}
use mathlib.Core.Path.{◌≡◌}
use native.Mathlib.Omega.{arith}
use native.Mathlib.Decide.{dec_lt}
use borrow.Author.Tests.{lt-ltb, le-ltb}
use Rattle.datasheet_stated.specs.declared.Figures.{Figures}
use Rattle.datasheet_stated.specs.Words.{Sheet}
use Rattle.std.specs.Prelude.{Ok, Err}
use Rattle.datasheet_stated.specs.declared.NoSheet.TheVariants.{TooShort, TooLong}
use Rattle.std.specs.Prelude.{Some, None}
use Rattle.datasheet_stated.specs.Sheet.{longest_room, figures_of, sheet_of, needed_of}

pub row_short : (n : ℕ) → n < 394 → Err TooShort ≡ sheet_of n
row_short n h = rw (lt-ltb n 394 h)

pub row_long : (n : ℕ) → 394 ≤ n → longest_room < n → Err TooLong ≡ sheet_of n
row_long n h g = rw (le-ltb n 394 h, lt-ltb longest_room n g)

pub row_within : (n : ℕ) → 394 ≤ n → n ≤ longest_room → Ok (figures_of n) ≡ sheet_of n
row_within n h g = rw (le-ltb n 394 h, le-ltb longest_room n g)

pub needed_none : (c : ℕ) → longest_room < c + 394 → None ≡ needed_of c
needed_none c h = rw (lt-ltb longest_room (c + 394) h)

pub needed_room : (c : ℕ) → c + 394 ≤ longest_room → Some (c + 394) ≡ needed_of c
needed_room c h = rw (le-ltb longest_room (c + 394) h)

-- ---- the ways
pub data Way (n : ℕ) : Sheet → Type 0 where
  short : n < 394 → Way n (Err TooShort)
  long : 394 ≤ n → longest_room < n → Way n (Err TooLong)
  within : 394 ≤ n → n ≤ longest_room → Way n (Ok (figures_of n))

pub way : (n : ℕ) → Way n (sheet_of n)
way n = by (dec_lt n 394) (dec_lt longest_room n)
  where
    by : Dec (n < 394) → Dec (longest_room < n) → Way n (sheet_of n)
    by (yes h) g = rw (← row_short n h) (short h)
    by (no h) (yes g) = rw (← row_long n (omega arith) g) (long (omega arith) g)
    by (no h) (no g) = rw (← row_within n (omega arith) (omega arith)) (within (omega arith) (omega arith))

-- a row is that of a buffer within the bounds, and its figures are the definition's
pub record Within (n : ℕ) (f : Figures) : Type 0 where
  pub low : 394 ≤ n
  pub high : n ≤ longest_room
  pub is : figures_of n ≡ f

row_figures : (f g : Figures) → ◌≡◌ {A = Sheet} (Ok f) (Ok g) → f ≡ g
row_figures f g e = cc

pub not_row : (f : Figures) → Err TooShort ≡ Ok f → ⊥
not_row f e = let z : ◌≡◌ {A = ℕ} 0 1 = cc in omega arith

pub long_not_row : (f : Figures) → Err TooLong ≡ Ok f → ⊥
long_not_row f e = let z : ◌≡◌ {A = ℕ} 0 1 = cc in omega arith

pub short_not_long : ◌≡◌ {A = Sheet} (Err TooShort) (Err TooLong) → ⊥
short_not_long e = let z : ◌≡◌ {A = ℕ} 0 1 = cc in omega arith

pub row_is : (n : ℕ) (f : Figures) → sheet_of n ≡ Ok f → Within n f
row_is n f e = go (way n) e
  where
    go : {s : Sheet} → Way n s → s ≡ Ok f → Within n f
    go (short h) x = absurd (not_row f x)
    go (long h g) x = absurd (long_not_row f x)
    go (within h g) x = record { low = h; high = g; is = row_figures _ _ x }
