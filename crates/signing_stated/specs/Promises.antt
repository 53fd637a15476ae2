-- What is promised of each public function of crates signing and signing_layouts, over what it is lent, its result, and the final
-- contents of what it writes: an order is the head that is handed back and the lent block after the call.
use Rattle.std.specs.Prelude.{ℕ, Bool, ◌≡◌, List, leb}
use Rattle.signing_stated.specs.Layouts.{RegisterFields}
use Rattle.signing_stated.specs.Orders.{Kind, Head, head_of, order_with, AuthenticateParts, kind_no, blank_order, register_order_of, authenticate_order_for, is_of_layout}
use Rattle.signing_stated.specs.Finishing.{Finishing, Finished, finish_of, finished_of, length_of, reply_of, register_room, authenticate_room}

abbrev pub KindNumber : Kind → ℕ → Type 0
KindNumber kind r = r ≡ kind_no kind

abbrev pub Blank : Head → Type 0
Blank r = r ≡ head_of blank_order

abbrev pub RegisterOrder : RegisterFields → ℕ → Head → (block : List ℕ) → Type 0
RegisterOrder fields certificate r block = order_with r block ≡ register_order_of fields certificate

abbrev pub AuthenticateOrder : AuthenticateParts → Head → (block : List ℕ) → Type 0
AuthenticateOrder parts r block = order_with r block ≡ authenticate_order_for parts

-- of crate signing_layouts
abbrev pub HasLayout : Head → (block : List ℕ) → Bool → Type 0
HasLayout head block r = r ≡ is_of_layout (order_with head block)

abbrev pub HasRegisterRoom : (room h c : ℕ) → Bool → Type 0
HasRegisterRoom room h c r = r ≡ leb (register_room h c) room

abbrev pub HasAuthenticateRoom : (room : ℕ) → Bool → Type 0
HasAuthenticateRoom room r = r ≡ leb authenticate_room room

-- the answer, and the reply buffer after the call
pub record Finishes (i : Finishing) (answer : Finished) (after : List ℕ) : Type 0 where
  pub says : finished_of answer ≡ length_of (finish_of i)
  pub leaves : after ≡ reply_of (finish_of i) i.reply

abbrev pub Finish : Head → (block certificate : List ℕ) (signed : Bool) (signature reply : List ℕ) → Finished → (after : List ℕ) → Type 0
Finish head block certificate signed signature reply answer after =
    Finishes (record { order = order_with head block; certificate = certificate; signed = signed; signature = signature; reply = reply }) answer after
