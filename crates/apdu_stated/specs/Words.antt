-- Document 01, 'Eight frame shapes', the columns "no" and "shape"; document 02, E13: "Shape 6 is retired". The other files of
-- specs/ take their notation and the cases' names from here.
pub use Rattle.std.specs.Prelude.{ℕ, ◌+◌, ◌≤◌, ◌<◌, ◌≡◌, Bool, true, false, not, ◌&&◌, ◌||◌, List, [], ◌∷◌, ◌++◌, map, length, take, drop, leb, ltb, eqb}
pub use Rattle.apdu_stated.specs.declared.ApduHeader.{ApduHeader}
pub use Rattle.apdu_stated.specs.declared.Case.{Case}
pub use Rattle.apdu_stated.specs.declared.Case.TheVariants.{Instruction, Le1, Lc1Data, Lc1DataLe1, Lc3Data, Lc3DataLe2, Le3}

-- 01, 'Eight frame shapes': the column "no". 02, E13: no shape has number 6 any more; the others keep theirs (ours)
abbrev pub shape_no : Case → ℕ
shape_no Instruction = 1
shape_no Le1 = 2
shape_no Lc1Data = 3
shape_no Lc1DataLe1 = 4
shape_no Lc3Data = 5
shape_no Lc3DataLe2 = 7
shape_no Le3 = 8
