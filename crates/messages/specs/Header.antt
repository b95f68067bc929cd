-- Document 01, "Messages": "Header: eventId 2 bytes, pduLength 4 bytes, little-endian; the length counts the header", and checks 1 to 4.
use Rattle.std.specs.Prelude.{ℕ, ◌+◌, ◌*◌, Bool, true, false, cond, List, [], ◌∷◌, ◌++◌, ltb, eqb, length, get_or, drop}
use Rattle.paper.specs.Refusals.{short, too_long, unexpected, bad_length, trailing}
use Rattle.formats.specs.Format.{Got, got, bad, and_then, Format, whole, write_little}

-- ---- events (000, 2.2.2.6)

abbrev pub server_ready : ℕ
server_ready = 1

abbrev pub client_ready : ℕ
client_ready = 2

abbrev pub touch : ℕ
touch = 3

abbrev pub suspend : ℕ
suspend = 4

abbrev pub resume : ℕ
resume = 5

abbrev pub dismiss : ℕ
dismiss = 6

-- ---- reading

abbrev pub header_bytes : ℕ
header_bytes = 6

-- "Limits: message 4,096 bytes"
abbrev pub most_bytes : ℕ
most_bytes = 4096

-- eventId and pduLength
abbrev pub event_of : List ℕ → ℕ
event_of l = get_or l 1 0 * 256 + get_or l 0 0

abbrev pub pdu_length : List ℕ → ℕ
pdu_length l = ((get_or l 5 0 * 256 + get_or l 4 0) * 256 + get_or l 3 0) * 256 + get_or l 2 0

unfoldable pub one_of : List ℕ → ℕ → Bool
one_of [] v = false
one_of (x ∷ xs) v = cond (eqb v x) true (one_of xs v)

-- "Checks 1 to 4 run in that order": the event, of those that are taken, and the body
unfoldable pub headed : List ℕ → List ℕ → Got ℕ
headed events l =
    cond (ltb (length l) header_bytes) (bad short)
    (cond (ltb most_bytes (length l)) (bad too_long)
    (cond (one_of events (event_of l))
    (cond (eqb (pdu_length l) (length l)) (got (event_of l) (drop header_bytes l)) (bad bad_length))
    (bad unexpected)))

-- a message of the event e, whose body is all of the format f; bytes after it are 12
unfoldable pub read_message : {A : Type 0} → ℕ → Format A → List ℕ → Got A
read_message e f l = and_then (headed (e ∷ []) l) (λ x b. whole f trailing b)

-- ---- writing

abbrev pub header : ℕ → ℕ → List ℕ
header e n = write_little 2 e ++ write_little 4 n

unfoldable pub write_message : {A : Type 0} → ℕ → Format A → A → List ℕ
write_message e f a = header e (header_bytes + length (f.write a)) ++ f.write a
