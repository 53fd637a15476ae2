-- Wrong data sheets, one fault each. proofs/Refuted.antt shows the claim that is false of each.
use Rattle.std.specs.Prelude.{◌+◌, ◌-◌}
use Rattle.datasheet_stated.specs.Words.{ℕ, ltb, when◌then◌else◌, Figures, Sheet, Ok, Err, TooShort, TooLong, RoomNeeded, Some, None}
use Rattle.datasheet_stated.specs.Sheet.{longest_room, figures_of, sheet_of}

-- a sheet with other figures
abbrev changed : (Figures → Figures) → Sheet → Sheet
changed by (Err why) = Err why
changed by (Ok f) = Ok (by f)

-- figures with one of them changed
abbrev with_certificate : ℕ → Figures → Figures
with_certificate c f = record { room = f.room; certificate = c; handle = f.handle; body = f.body; short = f.short; extended = f.extended; command = f.command }

abbrev with_handle : ℕ → Figures → Figures
with_handle h f = record { room = f.room; certificate = f.certificate; handle = h; body = f.body; short = f.short; extended = f.extended; command = f.command }

abbrev with_body : ℕ → Figures → Figures
with_body b f = record { room = f.room; certificate = f.certificate; handle = f.handle; body = b; short = f.short; extended = f.extended; command = f.command }

abbrev with_responses : (short extended : ℕ) → Figures → Figures
with_responses s e f = record { room = f.room; certificate = f.certificate; handle = f.handle; body = f.body; short = s; extended = e; command = f.command }

abbrev with_command : ℕ → Figures → Figures
with_command k f = record { room = f.room; certificate = f.certificate; handle = f.handle; body = f.body; short = f.short; extended = f.extended; command = k }

-- ---- which buffers have a row
-- "n at least 394": here from 393 on
abbrev pub from393 : ℕ → Sheet
from393 n = when ltb n 393 then Err TooShort else when ltb longest_room n then Err TooLong else Ok (figures_of n)

-- a row for every longer buffer
abbrev pub without_end : ℕ → Sheet
without_end n = when ltb n 394 then Err TooShort else Ok (figures_of n)

-- ---- the columns
-- "at most n - 394 bytes": here n - 393, n - 395, and n - 322, which has no room for a signature
abbrev pub certificate_one_more : ℕ → Sheet
certificate_one_more n = changed (with_certificate (n - 393)) (sheet_of n)

abbrev pub certificate_one_less : ℕ → Sheet
certificate_one_less n = changed (with_certificate (n - 395)) (sheet_of n)

abbrev pub without_signature : ℕ → Sheet
without_signature n = changed (with_certificate (n - 322)) (sheet_of n)

-- "a handle of at most 255"
abbrev pub handle_of256 : ℕ → Sheet
handle_of256 n = changed (with_handle 256) (sheet_of n)

abbrev pub handle_of254 : ℕ → Sheet
handle_of254 n = changed (with_handle 254) (sheet_of n)

-- "no body is longer than n"
abbrev pub body_without_signature : ℕ → Sheet
body_without_signature n = changed (with_body (n - 72)) (sheet_of n)

abbrev pub body_one_more : ℕ → Sheet
body_one_more n = changed (with_body (n + 1)) (sheet_of n)

-- a response counts its status
abbrev pub short_without_status : ℕ → Sheet
short_without_status n = changed (with_responses 256 (n + 2)) (sheet_of n)

abbrev pub extended_without_status : ℕ → Sheet
extended_without_status n = changed (with_responses 258 n) (sheet_of n)

-- the longest frame of shapes 1 to 4: 4 + 1 + 255 + 1
abbrev pub short_frames_only : ℕ → Sheet
short_frames_only n = changed (with_command 261) (sheet_of n)

-- ---- the buffer for a certificate
abbrev pub needed_one_less : ℕ → RoomNeeded
needed_one_less c = when ltb longest_room (c + 393) then None else Some (c + 393)

abbrev pub needed_one_more : ℕ → RoomNeeded
needed_one_more c = when ltb longest_room (c + 395) then None else Some (c + 395)

abbrev pub needed_without_end : ℕ → RoomNeeded
needed_without_end c = Some (c + 394)
