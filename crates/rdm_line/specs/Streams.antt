-- Exchanges by lines of text, over a reader and a writer.
use Rattle.std.specs.Prelude.{◌≡◌, ◌≢◌, ◌≤◌, ◌⊎◌, ℕ, ◌-◌, ◌^◌, List, [], ◌∷◌, ◌++◌, All, Option, Ok, length}
use Rattle.std.specs.Io.KnownBytes.{Appends, Consumes}
use Rattle.hex.specs.Hex.{encode_lower, decode_of}
use Rattle.rdm_line.specs.Events.{Exchange}
use Rattle.rdm_join.specs.declared.event.LineEvent.TheVariants.{Reply, Failed}

-- what the reader has left and what the writer holds, if these are known, and how many exchanges have failed
pub record StreamState : Type 0 where
  pub left : Option (List ℕ)
  pub held : Option (List ℕ)
  pub failures : ℕ

-- the line of a frame: its bytes in lower-case hexadecimal, and a newline
abbrev pub frame_line : List ℕ → List ℕ
frame_line bytes = encode_lower bytes ++ 10 ∷ []

-- A line, without its newline, encodes these bytes: at most 257, in hexadecimal of either case. A carriage return may
-- follow the digits.
abbrev pub SaysReply : List ℕ → List ℕ → Type 0
SaysReply line bytes =
    (text : List ℕ)
    × ((line ≡ text) ⊎ (line ≡ text ++ 13 ∷ []))
    × (decode_of text ≡ Ok bytes)
    × (length bytes ≤ 257)

-- one line was read with its newline, and it encodes these bytes
abbrev pub ReadsReply : Option (List ℕ) → Option (List ℕ) → List ℕ → Type 0
ReadsReply left after bytes =
    (line : List ℕ) × All (λ b. b ≢ 10) line × Consumes left after (line ++ 10 ∷ []) × SaysReply line bytes

-- a part of a line was read, or one line with its newline, which encodes no bytes
abbrev pub ReadsNoReply : Option (List ℕ) → Option (List ℕ) → Type 0
ReadsNoReply left after =
    (line : List ℕ)
    × All (λ b. b ≢ 10) line
    × (Consumes left after line
    ⊎ (Consumes left after (line ++ 10 ∷ []) × ((bytes : List ℕ) → SaysReply line bytes → ⊥)))

-- no reply came to this frame: nothing was read, or the frame's line was written first
abbrev pub GoesUnanswered : StreamState → List ℕ → StreamState → Type 0
GoesUnanswered old frame new =
    (new.left ≡ old.left) ⊎ (Appends old.held new.held (frame_line frame) × ReadsNoReply old.left new.left)

-- A reply is read from one line, after the frame's line was written. A failure reads no reply. At the greatest count of
-- failures a failure is silence.
abbrev pub StreamStep : StreamState → Exchange → StreamState → Type 0
StreamStep old (frame, Failed) new = GoesUnanswered old frame.items new
StreamStep old (frame, Reply reply) new =
    (Appends old.held new.held (frame_line frame.items) × ReadsReply old.left new.left reply.items)
    ⊎ ((old.failures ≡ 2 ^ 64 - 1) × (reply.items ≡ []) × GoesUnanswered old frame.items new)
