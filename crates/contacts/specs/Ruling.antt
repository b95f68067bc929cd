-- What the code answers for a frame: of the contacts as they are read, and of a table as it is lent.
use Rattle.std.specs.Prelude.{ℕ, ◌+◌, ◌-◌, ◌≡◌, Bool, false, cond, List, [], ◌∷◌, leb, ℤ, length, get_or, Option, Some, None}
use Rattle.formats.specs.Format.{Got, Format, times}
use Rattle.fields.specs.Integers.{taken}
use Rattle.framing.specs.After.{on_read}
use Rattle.states.specs.Table.{out, next}
use Rattle.house.specs.declared.Contact.{Contact}
use Rattle.touch.specs.Touch.{contact}
use Rattle.recordings.specs.Records.{contact_record}
use Rattle.machine.specs.Table.{Table, contacts, active, one, count_active}
use Rattle.machine.specs.Rules.{Rules}
use Rattle.machine.specs.Conforms.{every, distinct, legal, stays, table_after, conforms}
use Rattle.machine.specs.Machine.{Arrays, Verdict, injected, ignored, cancelled, verdict_by}
use Rattle.contacts.specs.Touch.{touch_view}
use Rattle.contacts.specs.declared.Survey.{Survey}
use Rattle.contacts.specs.declared.Ruling.{Ruling}

-- where contacts are read: in the records of frames, or in a message
abbrev pub source : Bool → Format Contact
source recorded = cond recorded contact_record (contact taken)

-- the n contacts of a format at the front of a list of bytes
abbrev pub contacts_by : Format Contact → ℕ → List ℕ → Got (List Contact)
contacts_by format n l = (times n format).read l

-- .. of a message
abbrev pub contacts_of : ℕ → List ℕ → Got (List Contact)
contacts_of n l = contacts_by (contact taken) n l

-- what is said of the contacts that are read, and z where they are not all there
abbrev pub of_read : {A : Type 0} → A → (List Contact → A) → Got (List Contact) → A
of_read z f = on_read z (λ cs t. f cs)

-- a table as it is lent
abbrev pub table_from : List ℕ → List ℤ → List ℤ → Table
table_from states xs ys = record { states = states; xs = xs; ys = ys }

-- .. with its set
abbrev pub arrays_from : List ℕ → List ℤ → List ℤ → List ℕ → Arrays
arrays_from states xs ys held = record { table = table_from states xs ys; held = held }

-- the rules of one contact, over the arrays that each looks at
abbrev pub legal_in : List ℕ → Contact → Bool
legal_in states = legal touch_view next (table_from states [] [])

abbrev pub stays_in : List ℤ → List ℤ → Contact → Bool
stays_in xs ys = stays touch_view (table_from [] xs ys)

abbrev pub allowed_in : List ℕ → List ℤ → List ℤ → Contact → Bool
allowed_in states xs ys c = cond (legal_in states c) (stays_in xs ys c) false

-- ---- how a frame changes the number of active contacts

-- how many of its contacts are active after their own step from these states, and how many were before it
unfoldable pub came : (ℕ → ℕ → ℕ) → List ℕ → List Contact → ℕ
came step states [] = 0
came step states (c ∷ cs) = one (active (step c.flags (get_or states c.id out))) + came step states cs

unfoldable pub gone : List ℕ → List Contact → ℕ
gone states [] = 0
gone states (c ∷ cs) = one (active (get_or states c.id out)) + gone states cs

-- what one pass over the contacts finds; nothing of a frame that breaks a rule
unfoldable pub surveyed : List ℕ → List ℤ → List ℤ → List Contact → Option Survey
surveyed states xs ys cs =
    cond (cond (distinct touch_view cs) (every (allowed_in states xs ys) cs) false) (Some (record { came = came next states cs; gone = gone states cs })) None

-- the number of active contacts, given beside the 256 states
pub record Counted (k : ℕ) (states : List ℕ) : Type 0 where
  pub all : length states ≡ contacts
  pub same : k ≡ count_active states

-- ---- the answers

-- so many active contacts, where they are not too many
abbrev pub judged_as : ℕ → ℕ → Option ℕ
judged_as most k = cond (leb k most) (Some k) None

-- how many contacts are active after a frame that conforms
unfoldable pub judged_of : Rules Contact → Table → List Contact → Option ℕ
judged_of rules t cs = cond (conforms touch_view rules t cs) (Some (count_active (table_after touch_view rules.next t cs).states)) None

-- a verdict, with the number of active contacts after an injected frame
abbrev pub ruling_as : Verdict → ℕ → Ruling
ruling_as injected k = Ruling.Injected k
ruling_as ignored k = Ruling.Ignored
ruling_as cancelled k = Ruling.Cancelled

unfoldable pub ruling_of : Bool → Rules Contact → Table → List Contact → Ruling
ruling_of judged rules t cs = ruling_as (verdict_by touch_view judged rules t cs) (count_active (table_after touch_view rules.next t cs).states)

-- contacts that cannot be read conform to nothing
abbrev pub unread : Bool → Ruling
unread judged = cond judged Ruling.Cancelled Ruling.Ignored

-- ---- the promises, of contacts that are read as x; the number of active contacts is the one that is given, whether it is the table's or not

-- of what one pass found: nothing more is asked of a frame that breaks a rule, nor where more contacts would go than there are
unfoldable pub judged_on : ℕ → ℕ → Option Survey → Option ℕ
judged_on most active (Some v) = cond (leb v.gone (active + v.came)) (judged_as most (active + v.came - v.gone)) None
judged_on most active None = None

-- .. of the contacts themselves
abbrev pub judged_from : ℕ → ℕ → Table → Got (List Contact) → Option ℕ
judged_from most active t x = of_read None (λ cs. judged_on most active (surveyed t.states t.xs t.ys cs)) x

-- what becomes of a frame that is judged
abbrev pub ruled : Option ℕ → Ruling
ruled (Some k) = Ruling.Injected k
ruled None = Ruling.Cancelled

-- .. of a frame, which is judged or is not
abbrev pub ruling_by : Bool → Option ℕ → Ruling
ruling_by judged j = cond judged (ruled j) Ruling.Ignored
