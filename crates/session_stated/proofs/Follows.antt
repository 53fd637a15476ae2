-- That no touch is lost follows of whatever meets the claims on deciding, finishing, the room, the limit and sending: each is the definition.
use Prim.Native.Nat.{ℕ}
use mathlib.Core.Path.{◌≡◌, sym, subst, ap, ◌∙◌}
use mathlib.Core.List.{List}
use lib.ListN.{length}
use Rattle.signing_stated.specs.Claims.{FinishesExactly}
use Rattle.signing_stated.specs.Finishing.{Finishing, Ended, end_of}
use Rattle.signing_stated.specs.Orders.{Order}
use Rattle.signing_stated.proofs.Laws.{finishes_exactly, finishes_only}
use Rattle.response_stated.specs.Claims.{NextExactly}
use Rattle.response_stated.specs.Terms.{Sender, sending_of}
use Rattle.response_stated.proofs.Laws.{next_exactly, next_only}
use Rattle.ctap1_stated.specs.Terms.{Decider}
use Rattle.ctap1_stated.specs.Claims.{DecidesExactly, LimitsExactly}
use Rattle.ctap1_stated.specs.Path.{frame_limit}
use Rattle.ctap1_stated.specs.Decision.{decision_of}
use Rattle.ctap1_stated.proofs.Laws.{decides_exactly, decides_only, limits_exactly, limits_only, order_whole}
use Rattle.session_stated.specs.Held.{frame_room_of}
use Rattle.session_stated.specs.Terms.{FrameRoom, FirstPart}
use Rattle.session_stated.specs.Claims
use Rattle.session_stated.proofs.Only as Only
use Rattle.session_stated.proofs.Theorems as Theorems

-- the order that a decision gave has its whole block, and on such a one whatever meets the claim finishes as the definition does
finished : (finish : Finishing → Ended) → FinishesExactly finish → Claims.NoTouchIsLost decision_of finish frame_room_of frame_limit sending_of
finished finish is p t a i buffer x =
    let whole : length i.order.bytes ≡ 385 = ap (λ (o : Order). length o.bytes) x.order ∙ order_whole p t a x.ordered in
    let same : end_of i ≡ finish i = finishes_only end_of finish finishes_exactly is i whole in
    let y = Theorems.NoTouchIsLost p t a i buffer x in
    record {
      failed = λ f. sym same ∙ y.failed f;
      served = λ s.
          let b = y.served s in
          (b.0, ap (λ (e : Ended). e.answer) (sym same) ∙ b.1, subst (λ (e : Ended). FirstPart sending_of e.reply b.0 (frame_limit a.frame) buffer) same b.2);
    }

pub no_touch_follows : (decide : Decider) (finish : Finishing → Ended) (room : FrameRoom) (limit : List ℕ → ℕ) (next : Sender)
    → DecidesExactly decide → FinishesExactly finish → Claims.FrameRoomExactly room → LimitsExactly limit → NextExactly next → Claims.NoTouchIsLost decide finish room limit next
no_touch_follows decide finish room limit next D F R L N =
    let decides : decision_of ≡ decide = λ d p t a. decides_only decision_of decide decides_exactly D p t a d in
    let rooms : frame_room_of ≡ room = λ d frame longest. Only.FrameRoomExactly frame_room_of room Theorems.FrameRoomExactly R frame longest d in
    let limits : frame_limit ≡ limit = λ d frame. limits_only frame_limit limit limits_exactly L frame d in
    let sends : sending_of ≡ next = λ d body r l old. next_only sending_of next next_exactly N body r l old d in
    subst (λ (s : Sender). Claims.NoTouchIsLost decide finish room limit s) sends
    (subst (λ (l : List ℕ → ℕ). Claims.NoTouchIsLost decide finish room l sending_of) limits
    (subst (λ (r : FrameRoom). Claims.NoTouchIsLost decide finish r frame_limit sending_of) rooms
    (subst (λ (f : Decider). Claims.NoTouchIsLost f finish frame_room_of frame_limit sending_of) decides (finished finish F))))
