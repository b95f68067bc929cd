-- The bodies of the five messages beside touch (000, 2.2.3.1, 2.2.3.2 and 2.2.3.4 to 2.2.3.6): "1, server ready: version 4 bytes. 2, client
-- ready: flags 4, version 4, maxTouchContacts 2. All little-endian. Versions are 0x00010000 and 0x00010001; flag bits are 1 and 2 only. 4
-- suspend and 5 resume: header only. 6, dismiss: contact id, 1 byte."
use Rattle.std.specs.Prelude.{ℕ, Bool, cond, List, [], ◌∷◌, ltb}
use Rattle.paper.specs.Refusals.{bad_field}
use Rattle.slices.specs.Writing.{Draft, bytes, refuse}
use Rattle.formats.specs.Format.{Format, done, field, such, byte, little}
use Rattle.messages.specs.Header.{one_of, write_message, server_ready, client_ready, suspend, resume, dismiss}
use Rattle.messages.specs.declared.Ready.{Ready}

-- the versions, in one list
abbrev pub versions : List ℕ
versions = 0x00010000 ∷ 0x00010001 ∷ []

unfoldable pub version_listed : ℕ → Bool
version_listed = one_of versions

-- no flag bit but 1 and 2
abbrev pub flags_listed : ℕ → Bool
flags_listed f = ltb f 4

abbrev pub version : Format ℕ
version = such (little 4) version_listed bad_field

abbrev pub ready_flags : Format ℕ
ready_flags = such (little 4) flags_listed bad_field

-- client ready, over the format of its version field
unfoldable pub ready_by : Format ℕ → Format Ready
ready_by declared =
    field ready_flags (λ r. r.flags) λ f.
    field declared (λ r. r.version) λ v.
    field (little 2) (λ r. r.most) λ m.
    done (record { flags = f; version = v; most = m })

abbrev pub ready : Format Ready
ready = ready_by version

abbrev pub nothing : Format (Unit {0})
nothing = done tt

-- ---- what the writers write ("The ready writers check 8, then 13; the others 13")

unfoldable pub server_ready_draft : ℕ → Draft
server_ready_draft v = cond (version_listed v) (bytes (write_message server_ready version v)) (refuse bad_field)

unfoldable pub client_ready_draft : Ready → Draft
client_ready_draft r =
    cond (flags_listed r.flags)
    (cond (version_listed r.version) (bytes (write_message client_ready ready r)) (refuse bad_field))
    (refuse bad_field)

unfoldable pub suspend_draft : Draft
suspend_draft = bytes (write_message suspend nothing tt)

unfoldable pub resume_draft : Draft
resume_draft = bytes (write_message resume nothing tt)

unfoldable pub dismiss_draft : ℕ → Draft
dismiss_draft id = bytes (write_message dismiss byte id)
