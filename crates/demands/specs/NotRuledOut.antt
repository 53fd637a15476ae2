-- What Carried.antt's `NoneCarriesOver` does not rule out: it speaks of all the bytes to sign, and of nothing beside them. Examples, of any panel that meets the contracts
-- (proofs/Examples.antt). docs/SIGNED.md says them in words.
mod Words
use Words.*

-- an enrolment, and a login with P1 03, each on a record with a live touch
abbrev pub lend : (frame : List ℕ) (counter : ℕ) (new_handle certificate x y : List ℕ) → ToDecide
lend frame counter new_handle certificate x y =
    record {
      presence = record { w = 1000; prompt = 0; touch = 1; last = 0; asker = 0 };
      session = record { place = 0; count = 0; limit = 0 };
      frame = frame;
      side = 0;
      moment = 0;
      hardware = record { allowed = 1; attestation = 1; stored = 1; good = 1; counted = 1; counter = counter };
      new_handle = new_handle;
      certificate = certificate;
      x = x;
      y = y;
      reply = replicate 512 0;
      block = replicate 385 0;
      part = replicate 258 0;
    }

abbrev pub enrol : (application challenge new_handle certificate x y : List ℕ) → ToDecide
enrol application challenge new_handle certificate x y = lend (0x00 ∷ 0x01 ∷ 0x00 ∷ 0x00 ∷ 64 ∷ [] ++ challenge ++ application) 0 new_handle certificate x y

abbrev pub log_in : (application challenge handle : List ℕ) (counter : ℕ) → ToDecide
log_in application challenge handle counter =
    lend (0x00 ∷ 0x02 ∷ 0x03 ∷ 0x00 ∷ (65 + length handle) ∷ [] ++ challenge ++ application ++ length handle ∷ [] ++ handle) counter [] [] (replicate 32 0) (replicate 32 0)

-- an enrolment whose application ends in 01, with a certificate of bytes n; and the login that its front is, with the handle n: 00 and the application but for its last
-- byte; that byte, as 'somebody was there'; the challenge's first four bytes, as the counter; the rest of the challenge, and the handle
abbrev pub posing : (n : ℕ) → ToDecide
posing n =
    enrol (replicate 31 0xA1 ++ 0x01 ∷ []) (0x00 ∷ 0x00 ∷ 0x00 ∷ 0x07 ∷ replicate 28 0xC1) (0xB1 ∷ 0xB2 ∷ 0xB3 ∷ 0xB4 ∷ []) (replicate 100 n) (replicate 32 0xD1) (replicate 32 0xE1)

abbrev pub posed_as : (n : ℕ) → ToDecide
posed_as n = log_in (0x00 ∷ replicate 31 0xA1) (replicate 28 0xC1 ++ 0xB1 ∷ 0xB2 ∷ 0xB3 ∷ 0xB4 ∷ []) (n ∷ []) 7

-- two enrolments, the second with a handle that is the first one's key
abbrev pub handleless : ToDecide
handleless = enrol (replicate 32 0xA1) (replicate 32 0xC1) [] [] (replicate 32 0xD1) (replicate 32 0xE1)

abbrev pub going_on : ToDecide
going_on = enrol (replicate 32 0xA1) (replicate 32 0xC1) (0x04 ∷ [] ++ replicate 32 0xD1 ++ replicate 32 0xE1) [] (replicate 32 0xD2) (replicate 32 0xE2)

-- a handle of no bytes and one of one, before keys of 04s: the same block, since the second key's y ends in 00 where the first order has its zeros
abbrev pub unhandled : ToDecide
unhandled = enrol (replicate 32 0xA1) (replicate 32 0xC1) [] [] (replicate 32 0x04) (replicate 32 0x04)

abbrev pub handled : ToDecide
handled = enrol (replicate 32 0xA1) (replicate 32 0xC1) (0x04 ∷ []) [] (replicate 32 0x04) (replicate 31 0x04 ++ 0x00 ∷ [])

pub record NotRuledOut (P : Panel) : Type 0 where
  -- they are orders
  pub enrols : (n : ℕ) → Orders P 1 (posing n)
  pub logs : (n : ℕ) → Orders P 2 (posed_as n)
  pub enrols_plainly : Orders P 1 handleless
  pub enrols_on : Orders P 1 going_on
  -- an enrolment's bytes begin with all of a login's, or with all of another enrolment's: a signer of fewer bytes than to_sign is not served by the claim
  pub login_in_front : (n m : ℕ) → take 69 (signed P (posing n)) ≡ signed P (posed_as m)
  pub enrolment_in_front : take 130 (signed P going_on) ≡ signed P handleless
  -- the certificate stands outside the bytes, and so does a login's handle, which chooses the key
  pub any_certificate : (n m : ℕ) → signed P (posing n) ≡ signed P (posing m)
  pub any_handle : (n m : ℕ) → signed P (posed_as n) ≡ signed P (posed_as m)

-- What fewer fields, or more bytes, would come to, of the panels of those names in Wrong.antt: an enrolment with a login's bytes; an enrolment with another's
pub record OtherBytes (key_left_out block_signed : Panel) : Type 0 where
  pub without_key : signed key_left_out (posing 0) ≡ signed key_left_out (posed_as 0)
  pub whole_block : signed block_signed unhandled ≡ signed block_signed handled
