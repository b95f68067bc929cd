-- The messages in a buffer: those of an entry and of what stands behind it, and those of two buffers, one after the other.
-- Assumes nothing.
use Rattle.std.specs.Prelude.{Option, Some, None}
use Prim.Native.Nat.{ℕ, zero, suc, ◌+◌, ◌≤◌}
use mathlib.Core.Path.{◌≡◌, refl, sym, ap, ◌∙◌}
use mathlib.Core.Bool.{true}
use mathlib.Core.List.{List, [], ◌∷◌, ◌++◌}
use native.Mathlib.Omega.{arith}
use borrow.Author.Tests.{eqb-true, eq-eqb}
use lib.ListN.{length, take, drop, length-append, length-drop}
use lib.Seq.{take-append-le, drop-append-le}
use Rattle.entries.specs.Entries.{front_of}
use Rattle.entries.proofs.Laws.{front-inside, front-append}
use Rattle.intake.specs.Feeding.{entry_bytes}
use Rattle.intake.proofs.Taking.{entry-message-long}
use Rattle.bursts.specs.Batch.{messages_at, messages_in, complete}

-- ---- the entry at the front

-- there is none, or it is whole
pub in-front : {P : Type 0} (l : List ℕ) → (front_of l ≡ None → P) → ((n : ℕ) → front_of l ≡ Some n → P) → P
in-front {P} l none some = go (front_of l) refl
  where
    go : (f : Option ℕ) → front_of l ≡ f → P
    go None e = none e
    go (Some n) e = some n e

-- ---- the messages

messages-stop : (k : ℕ) (l : List ℕ) → front_of l ≡ None → messages_at k l ≡ []
unfolding messages_at
messages-stop zero l e = refl
messages-stop (suc k) l e = rw e

messages-step : (k : ℕ) (l : List ℕ) (n : ℕ) → front_of l ≡ Some n → messages_at (suc k) l ≡ take n (drop 2 l) ∷ messages_at k (drop (n + 2) l)
unfolding messages_at
messages-step k l n e = rw e

messages-none : (k : ℕ) (l : List ℕ) → length l ≤ 0 → messages_at k l ≡ []
messages-none k l h = in-front l (messages-stop k l) λ n e. absurd (omega (arith, front-inside l n e))

-- to look for more entries than there are bytes finds no more
messages-enough : (k j : ℕ) (l : List ℕ) → length l ≤ k → length l ≤ j → messages_at k l ≡ messages_at j l
messages-enough zero j l h g = messages-none zero l h ∙ sym (messages-none j l h)
messages-enough (suc k) zero l h g = messages-none (suc k) l g ∙ sym (messages-none zero l g)
messages-enough (suc k) (suc j) l h g =
    in-front l (λ e. messages-stop (suc k) l e ∙ sym (messages-stop (suc j) l e)) λ n e.
    let i = front-inside l n e in
    let d = length-drop (n + 2) l in
    let same = messages-enough k j (drop (n + 2) l) (omega (arith, h, i, d)) (omega (arith, g, i, d)) in
    messages-step k l n e ∙ (ap (λ (ms : List (List ℕ)). take n (drop 2 l) ∷ ms) same ∙ sym (messages-step j l n e))

-- nothing, where no whole entry stands at the front ..
pub messages-end : (l : List ℕ) → front_of l ≡ None → messages_in l ≡ []
messages-end l e = messages-stop (length l) l e

pub messages-empty : (l : List ℕ) → length l ≤ 0 → messages_in l ≡ []
messages-empty l h = messages-none (length l) l h

-- .. and else its message, and those of what stands behind it
pub messages-more : (l : List ℕ) (n : ℕ) → front_of l ≡ Some n → messages_in l ≡ take n (drop 2 l) ∷ messages_in (drop (n + 2) l)
messages-more l n e =
    let d = length-drop (n + 2) l in
    let same = messages-enough (length l) (length (drop (n + 2) l)) (drop (n + 2) l) (omega (arith, d)) (omega arith) in
    messages-enough (length l) (suc (length l)) l (omega arith) (omega arith) ∙ (messages-step (length l) l n e ∙ ap (λ (ms : List (List ℕ)). take n (drop 2 l) ∷ ms) same)

-- how many they are, and their bytes
pub record Behind (l : List ℕ) (n : ℕ) : Type 0 where
  pub entries : length (messages_in l) ≡ suc (length (messages_in (drop (n + 2) l)))
  pub bytes : entry_bytes (messages_in l) ≡ 2 + n + entry_bytes (messages_in (drop (n + 2) l))

pub behind : (l : List ℕ) (n : ℕ) → front_of l ≡ Some n → Behind l n
unfolding entry_bytes
behind l n e =
    let m = messages-more l n e in
    let b = ap entry_bytes m in
    record { entries = ap length m; bytes = omega (arith, b, entry-message-long l n (front-inside l n e)) }

-- ---- the last entry is complete

pub complete-bytes : (l : List ℕ) → complete l ≡ true → entry_bytes (messages_in l) ≡ length l
unfolding complete
complete-bytes l h = eqb-true _ _ h

-- ---- two buffers, one after the other

bytes-append : (ms ns : List (List ℕ)) → entry_bytes (ms ++ ns) ≡ entry_bytes ms + entry_bytes ns
unfolding entry_bytes
bytes-append [] ns = omega arith
bytes-append (m ∷ ms) ns = omega (arith, bytes-append ms ns)

append-none : (l t : List ℕ) → length l ≤ 0 → messages_in (l ++ t) ≡ messages_in l ++ messages_in t
unfolding messages_at
append-none [] t h = refl
append-none (x ∷ l) t h = absurd (omega (arith, h))

append-from : (k : ℕ) (l t : List ℕ) → length l ≤ k → entry_bytes (messages_in l) ≡ length l → messages_in (l ++ t) ≡ messages_in l ++ messages_in t
unfolding entry_bytes
append-from zero l t h w = append-none l t h
append-from (suc k) l t h w =
    in-front l (λ e. append-none l t (omega (arith, w, ap entry_bytes (messages-end l e)))) λ n e.
    let i = front-inside l n e in
    let d = length-drop (n + 2) l in
    let rest = append-from k (drop (n + 2) l) t (omega (arith, h, i, d)) (omega (arith, w, (behind l n e).bytes, i, d)) in
    let m : take n (drop 2 (l ++ t)) ≡ take n (drop 2 l) = ap (take n) (drop-append-le 2 l t (omega (arith, i))) ∙ take-append-le n (drop 2 l) t (omega (arith, i, length-drop 2 l)) in
    let r : drop (n + 2) (l ++ t) ≡ drop (n + 2) l ++ t = drop-append-le (n + 2) l t (omega (arith, i)) in
    messages-more (l ++ t) n (front-append l t n e)
    ∙ ((λ j. m j ∷ messages_in (r j))
    ∙ (ap (λ (ms : List (List ℕ)). take n (drop 2 l) ∷ ms) rest
    ∙ ap (λ (ms : List (List ℕ)). ms ++ messages_in t) (sym (messages-more l n e))))

-- where the first ends with an entry, the messages of both are those of the one and those of the other
pub messages-append : (l t : List ℕ) → complete l ≡ true → messages_in (l ++ t) ≡ messages_in l ++ messages_in t
messages-append l t h = append-from (length l) l t (omega arith) (complete-bytes l h)

-- and their bytes those of both
both_bytes : (l t : List ℕ) → complete l ≡ true → entry_bytes (messages_in (l ++ t)) ≡ length l + entry_bytes (messages_in t)
both_bytes l t h = omega (arith, ap entry_bytes (messages-append l t h) ∙ bytes-append (messages_in l) (messages_in t), complete-bytes l h)

-- so the second ends with an entry where both do ..
pub complete-rest : (l t : List ℕ) → complete l ≡ true → complete (l ++ t) ≡ true → complete t ≡ true
unfolding complete
complete-rest l t h w = eq-eqb (entry_bytes (messages_in t)) (length t) (omega (arith, both_bytes l t h, complete-bytes (l ++ t) w, length-append l t))

-- .. and both where the second does
pub complete-both : (l t : List ℕ) → complete l ≡ true → complete t ≡ true → complete (l ++ t) ≡ true
unfolding complete
complete-both l t h w = eq-eqb (entry_bytes (messages_in (l ++ t))) (length (l ++ t)) (omega (arith, both_bytes l t h, complete-bytes t w, length-append l t))
