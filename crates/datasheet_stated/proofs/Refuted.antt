-- The claim that is false of each wrong sheet, at a buffer or a certificate where it bites.
use Prim.Native.Nat.{◌≤◌}
use mathlib.Core.Path.{refl, sym}
use native.Mathlib.Omega.{arith}
use Rattle.command_stated.specs.Command.{command_of}
use Rattle.signing_stated.specs.Orders.{register_order_of}
use Rattle.signing_stated.specs.Finishing.{end_of}
use Rattle.signing_stated.proofs.Laws.{makes_register, finishes_exactly}
use Rattle.session_stated.specs.Held.{frame_room_of}
use Rattle.session_stated.proofs.Laws.{frame_room_exactly}
use Rattle.datasheet_stated.specs.Sheet.{sheet_of, figures_of}
use Rattle.datasheet_stated.specs.Terms.{HandleOf, Longest, BodyOf, ShortResponse, AnyResponse, CommandOf}
use Rattle.datasheet_stated.specs.Claims
use Rattle.datasheet_stated.specs.Wrong
use Rattle.datasheet_stated.proofs.Cases.{not_row, long_not_row}
use Rattle.datasheet_stated.proofs.Alike.{has_room, has_room_exactly, takes_commands}
use Rattle.datasheet_stated.proofs.Theorems as Theorems

-- ---- which buffers have a row
pub from393 : Claims.HasRow Wrong.from393 → ⊥
from393 claim = not_row _ (sym ((claim.too_short 393).1 (omega arith)))

pub without_end : Claims.HasRow Wrong.without_end → ⊥
without_end claim = long_not_row _ (sym ((claim.too_long 0xfffffffffffffffe).1 (omega arith)))

-- ---- the columns: a certificate of one byte in 394, none in 395; 72 bytes of one in 394
pub certificate_one_more : Claims.CertificateColumn Wrong.certificate_one_more → ⊥
certificate_one_more claim =
    let room = (has_room_exactly 394 255 1).0 ((claim.up_to has_room has_room_exactly 394 _ refl 1).0 (omega arith) 255 (omega arith)) in
    omega arith

pub certificate_one_less : Claims.CertificateColumn Wrong.certificate_one_less → ⊥
certificate_one_less claim =
    let within = (claim.up_to has_room has_room_exactly 395 _ refl 1).1 (λ h most. (has_room_exactly 395 h 1).1 (omega arith)) in
    omega arith

pub without_signature : Claims.CertificateColumn Wrong.without_signature → ⊥
without_signature claim =
    let room = (has_room_exactly 394 255 72).0 ((claim.up_to has_room has_room_exactly 394 _ refl 72).0 (omega arith) 255 (omega arith)) in
    omega arith

-- and when it is finished
pub certificate_one_more_finished : Claims.FinishColumn Wrong.certificate_one_more → ⊥
certificate_one_more_finished claim = claim.never_r2 end_of finishes_exactly 394 _ refl 1 (omega arith) ((Theorems.FinishColumn).one_more end_of finishes_exactly 394 (figures_of 394) refl).r2

pub certificate_one_less_finished : Claims.FinishColumn Wrong.certificate_one_less → ⊥
certificate_one_less_finished claim = (Theorems.FinishColumn).never_r2 end_of finishes_exactly 395 (figures_of 395) refl 1 (omega arith) (claim.one_more end_of finishes_exactly 395 _ refl).r2

pub handle_of256 : Claims.HandleColumn Wrong.handle_of256 → ⊥
handle_of256 claim =
    let within : 256 ≤ 255 = (Theorems.HandleColumn register_order_of makes_register 394 (figures_of 394) refl 256).1 ((claim register_order_of makes_register 394 _ refl 256).0 (omega arith)) in
    omega arith

pub handle_of254 : Claims.HandleColumn Wrong.handle_of254 → ⊥
handle_of254 claim =
    let fits : HandleOf register_order_of 255 = (Theorems.HandleColumn register_order_of makes_register 394 (figures_of 394) refl 255).0 (omega arith) in
    let within = (claim register_order_of makes_register 394 _ refl 255).1 fits in
    omega arith

-- the longest of each, as the definition has it, is above or below
pub body_without_signature : Claims.BodyColumn Wrong.body_without_signature → ⊥
body_without_signature claim =
    let is : Longest (BodyOf end_of 394) 394 = Theorems.BodyColumn end_of finishes_exactly 394 (figures_of 394) refl in
    let most = (claim end_of finishes_exactly 394 _ refl).at_most 394 is.reached in
    omega arith

pub body_one_more : Claims.BodyColumn Wrong.body_one_more → ⊥
body_one_more claim =
    let is : Longest (BodyOf end_of 394) 394 = Theorems.BodyColumn end_of finishes_exactly 394 (figures_of 394) refl in
    let most = is.at_most 395 (claim end_of finishes_exactly 394 _ refl).reached in
    omega arith

pub short_without_status : Claims.ShortColumn Wrong.short_without_status → ⊥
short_without_status claim =
    let is : Longest (ShortResponse frame_room_of 394) 258 = Theorems.ShortColumn frame_room_of frame_room_exactly 394 (figures_of 394) refl in
    let most = (claim frame_room_of frame_room_exactly 394 _ refl).at_most 258 is.reached in
    omega arith

pub extended_without_status : Claims.ExtendedColumn Wrong.extended_without_status → ⊥
extended_without_status claim =
    let is : Longest (AnyResponse frame_room_of 394) 396 = Theorems.ExtendedColumn frame_room_of frame_room_exactly 394 (figures_of 394) refl in
    let most = (claim frame_room_of frame_room_exactly 394 _ refl).at_most 396 is.reached in
    omega arith

pub short_frames_only : Claims.CommandColumn Wrong.short_frames_only → ⊥
short_frames_only claim =
    let is : Longest (CommandOf command_of) 329 = Theorems.CommandColumn command_of takes_commands 394 (figures_of 394) refl in
    let most = (claim command_of takes_commands 394 _ refl).at_most 329 is.reached in
    omega arith

-- ---- the buffer for a certificate: for none at all 394 bytes; 2^64 of them have no buffer
pub needed_one_less : Claims.NeededExactly Wrong.needed_one_less → ⊥
needed_one_less claim = not_row _ ((claim.room sheet_of Theorems.SheetExactly 0 393).0 refl).serves.its_row

pub needed_one_more : Claims.NeededExactly Wrong.needed_one_more → ⊥
needed_one_more claim =
    let least : 395 ≤ 394 = ((claim.room sheet_of Theorems.SheetExactly 0 395).0 refl).at_least 394 (record { figures = figures_of 394; its_row = refl; within = omega arith }) in
    omega arith

pub needed_without_end : Claims.NeededExactly Wrong.needed_without_end → ⊥
needed_without_end claim = long_not_row _ ((claim.room sheet_of Theorems.SheetExactly 0x10000000000000000 0x1000000000000018a).0 refl).serves.its_row
