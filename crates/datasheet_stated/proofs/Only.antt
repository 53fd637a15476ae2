-- Only the definitions meet the claims: two that meet one agree on every buffer, and on every certificate.
use mathlib.Core.Path.{◌≡◌, refl, sym, ◌∙◌}
use Rattle.outcome.specs.Notation.{Determines}
use Rattle.datasheet_stated.specs.Words.{RoomNeeded}
use Rattle.std.specs.Prelude.{Some, None}
use Rattle.datasheet_stated.specs.Sheet.{sheet_of}
use Rattle.datasheet_stated.specs.Claims
use Rattle.datasheet_stated.proofs.Alike.{rows_alike}
use Rattle.datasheet_stated.proofs.Theorems as Theorems

pub SheetExactly : Determines Claims.SheetExactly
SheetExactly f g p q n = rows_alike f g p q n

pub NeededExactly : Determines Claims.NeededExactly
NeededExactly f g p q c = go (f c) refl
  where
    go : (o : RoomNeeded) → f c ≡ o → f c ≡ g c
    go (Some n) e = e ∙ sym ((q.room sheet_of Theorems.SheetExactly c n).1 ((p.room sheet_of Theorems.SheetExactly c n).0 e))
    go None e = e ∙ sym ((q.no_buffer sheet_of Theorems.SheetExactly c).1 ((p.no_buffer sheet_of Theorems.SheetExactly c).0 e))
