-- What each public function of `datasheet` promises of its result.
use Rattle.std.specs.Prelude.{◌≡◌}
use Rattle.datasheet_stated.specs.Words.{ℕ, Sheet, RoomNeeded}
use Rattle.datasheet_stated.specs.Sheet.{sheet_of, needed_of}

-- `row`
abbrev pub SheetSaid : ℕ → Sheet → Type 0
SheetSaid room r = r ≡ sheet_of room

-- `needed`
abbrev pub NeededSaid : ℕ → RoomNeeded → Type 0
NeededSaid certificate r = r ≡ needed_of certificate
