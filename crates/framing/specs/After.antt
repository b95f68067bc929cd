-- What the contacts of a frame leave, as they are read one after the other. C is what a contact of the message is.
use Rattle.std.specs.Prelude.{ℕ, zero, suc, List}
use Rattle.formats.specs.Format.{Got, got, bad, Format}

-- what a value and the bytes after it lead to, and z where there is none
abbrev pub on_read : {A B : Type 0} → B → (A → List ℕ → B) → Got A → B
on_read z f (got a t) = f a t
on_read z f (bad e) = z

-- what n contacts at the front of a list of bytes leave of a, one after the other by a step; those before the first that cannot be read, where one
-- cannot
module _ {A C : Type 0} (step : A → C → A) (format : Format C) where
  unfoldable pub after_read : ℕ → A → List ℕ → A
  after_read zero a l = a
  after_read (suc n) a l = on_read a (λ c rest. after_read n (step a c) rest) (format.read l)
