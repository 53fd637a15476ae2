-- NO SIGNATURE CAN BE CARRIED OVER: document 02, E11, of orders out of `brinecandle_decide`, on any two inputs. Terms first
mod Words
use Words.*

module _ (P : Panel) where
  -- an order: 1 Register, 2 Authenticate; x and y are 32 bytes in C
  abbrev pub Orders : (kind : ℕ) → ToDecide → Type 0
  Orders kind i = ((P.decide i).said.answer ≡ 0x0100) × ((P.decide i).said.order.kind ≡ kind) × (length i.x ≡ 32) × (length i.y ≡ 32)

  -- what the signer sees: the block's first to_sign bytes
  abbrev pub signed : ToDecide → List ℕ
  signed i = take (P.decide i).said.order.to_sign (P.decide i).block

  -- its fields, as lent; two stand in the frame that is decided, where `brinecandle_read_command` says
  abbrev pub enrolment : (frame : List ℕ) → ToDecide → RegisterFields
  enrolment frame i =
      record {
        application = bytes_at (P.read_command frame).application 32 frame;
        challenge = bytes_at (P.read_command frame).challenge 32 frame;
        handle = i.new_handle;
        x = i.x;
        y = i.y;
      }

  abbrev pub login : (frame : List ℕ) → ToDecide → AuthenticateParts
  login frame i =
      record {
        application = bytes_at (P.read_command frame).application 32 frame;
        challenge = bytes_at (P.read_command frame).challenge 32 frame;
        present = eqb (P.read_command frame).p1 0x03;  -- the presence byte: 01 for P1 03, 00 for 08
        counter = i.hardware.counter;
      }

-- "no Register and Authenticate order have the same bytes to sign, and two of one kind with equal bytes have every field inside them equal"
pub record NoneCarriesOver (P : Panel) : Type 0 where
  pub apart : (i j : ToDecide) → Orders P 1 i → Orders P 2 j → signed P i ≡ signed P j → ⊥
  pub enrolments : (i j : ToDecide) → Orders P 1 i → Orders P 1 j → signed P i ≡ signed P j → enrolment P i.frame i ≡ enrolment P j.frame j
  pub logins : (i j : ToDecide) → Orders P 2 i → Orders P 2 j → signed P i ≡ signed P j → login P i.frame i ≡ login P j.frame j
