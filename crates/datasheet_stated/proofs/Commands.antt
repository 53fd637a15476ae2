-- What bounds a command's frame: its Lc, and an Authenticate's Lc by one byte; and the frame that reaches it.
use Prim.Native.Nat.{ℕ, ◌+◌, ◌<◌, ◌≤◌}
use mathlib.Core.Path.{◌≡◌, refl, sym, ap, subst}
use mathlib.Core.List.{List, [], ◌∷◌, ◌++◌}
use native.Mathlib.Omega.{arith}
use lib.ListN.{length, replicate, length-append}
use Rattle.outcome.specs.Outcome.{Outcome, Gives}
use Rattle.octets.specs.Bytes.{byte, AreBytes}
use Rattle.octets.proofs.Laws.{part_byte}
use Rattle.apdu_stated.specs.declared.ApduHeader.{ApduHeader}
use Rattle.apdu_stated.specs.declared.Entry.TheVariants.{Ordinary}
use Rattle.apdu_stated.specs.Answers.{Says}
use Rattle.apdu_stated.specs.Reading.{read_of, data_of}
use Rattle.apdu_stated.specs.Terms.{frame_with, saying, InTable, row1, row2, row3, row4, row5, row7, row8}
use Rattle.apdu_stated.specs.Terms as Apdu
use Rattle.apdu_stated.proofs.Laws.{read_exactly, reads_entry, of_table, data_within}
use Rattle.command_stated.specs.Command.{Command, Register, Authenticate, Version, GetResponse}
use Rattle.datasheet_stated.specs.Terms.{TakesCommands}

frame_most : {frame d : List ℕ} {said : Says} → InTable frame said d → length frame ≤ 9 + said.lc
frame_most row1 = omega arith
frame_most (row2 o) = omega arith
frame_most (row3 a b) = omega arith
frame_most (row4 {d = d} {b = b} x y o) = omega (arith, length-append d (b ∷ []))
frame_most (row5 x p) = omega arith
frame_most (row7 {d = d} {a = a} {b = b} p t) = omega (arith, length-append d (a ∷ b ∷ []))
frame_most (row8 t) = omega arith

module _ (frame : List ℕ) (bytes : AreBytes frame) where
  read_most : (said : Says) → read_of frame ≡ Gives said → length frame ≤ 9 + said.lc
  read_most said e = frame_most ((read_exactly frame bytes said).0 e).1

  handle_byte : (said : Says) → read_of frame ≡ Gives said → 65 ≤ said.lc → byte (data_of frame said) 64 < 256
  unfolding data_of
  handle_byte said e h =
      let within = data_within frame said e in
      subst (λ (b : ℕ). b < 256) (sym (part_byte frame said.data_at (said.data_at + said.lc) 64 (omega arith) within)) (bytes (said.data_at + 64))

  pub command_most : (command : List ℕ → Outcome Command) → TakesCommands command → (c : Command) → command frame ≡ Gives c → length frame ≤ 329
  command_most command takes (Register said) e =
      let t = (takes.register frame said).0 e in
      omega (arith, read_most said t.0, t.3)
  command_most command takes (Authenticate p1 said) e =
      let t = (takes.authenticate frame p1 said).0 e in
      omega (arith, read_most said t.0, t.4, handle_byte said t.0 t.3)
  command_most command takes Version e =
      let t = (takes.version frame).0 e in
      omega (arith, read_most t.0 t.1, t.4)
  command_most command takes GetResponse e =
      let t = (takes.get_response frame).0 e in
      omega (arith, read_most t.0 t.1, t.6)

-- an Authenticate in shape 7, with a handle of 255 bytes
abbrev login : ApduHeader
login = record { cla = 0x00; ins = 0x02; p1 = 0x03; p2 = 0x00 }

abbrev longest_data : List ℕ
longest_data = replicate 64 0x00 ++ 0xFF ∷ replicate 255 0x00

abbrev pub longest_frame : List ℕ
longest_frame = frame_with login (0x00 ∷ 0x01 ∷ 0x40 ∷ (longest_data ++ 0x00 ∷ 0x00 ∷ []))

abbrev pub longest_says : Says
longest_says = saying login 7 7 320 65536

longest_in_table : InTable longest_frame longest_says longest_data
longest_in_table = row7 {h = login} {d = longest_data} {hi = 0x01} {lo = 0x40} {a = 0x00} {b = 0x00} {le = 65536} (record { high = omega arith; low = omega arith; is = refl }) Apdu.whole

pub longest_taken : (command : List ℕ → Outcome Command) → TakesCommands command → command longest_frame ≡ Gives (Authenticate 0x03 longest_says)
longest_taken command takes =
    (takes.authenticate longest_frame 0x03 longest_says).1 (
      reads_entry Ordinary longest_frame longest_data longest_says longest_in_table,
      refl,
      refl,
      omega arith,
      ap (λ (d : List ℕ). 65 + byte d 64) (sym (of_table longest_frame longest_data longest_says longest_in_table)),
      refl,
      refl,
    )
