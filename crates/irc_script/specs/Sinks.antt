-- What is printed: a front of it is written, and the rest waits to be.
use Rattle.std.specs.Prelude.{◌≡◌, ℕ, Option, Result, Ok, Err, List, [], ◌++◌}
use Rattle.std.specs.Io.KnownBytes.{Appends}
use Rattle.arrayvec.specs.ArrayVec.{ArrayVec}
use Rattle.irc_script.specs.declared.fault.Unwritten.{Unwritten}

-- what a writer holds, where that is known, and what waits to be written to it
pub record Sink : Type 0 where
  pub held : Option (List ℕ)
  pub waiting : List ℕ

abbrev pub sink : Option (List ℕ) → List ℕ → Sink
sink held waiting = record { held = held; waiting = waiting }

-- of a writer that holds this, and of what waits for it
abbrev pub sink_of : {W : Type 0} → (W → Option (List ℕ)) → W → ArrayVec ℕ → Sink
sink_of held output waiting = sink (held output) waiting.items

-- A text is printed: of what waited and the text a front was written, and just the rest waits.
pub record Prints (old new : Sink) (text : List ℕ) : Type 0 where
  pub written : List ℕ
  pub appended : Appends old.held new.held written
  pub whole : old.waiting ++ text ≡ written ++ new.waiting

-- A text was to be printed, and its end is lost: it stands behind all that was written and that
-- waits.
pub record Loses (old new : Sink) (text : List ℕ) : Type 0 where
  pub lost : List ℕ
  pub prints : Prints old (sink new.held (new.waiting ++ lost)) text

abbrev pub IsPrinted : Result (Unit {0}) Unwritten → Sink → Sink → List ℕ → Type 0
IsPrinted (Ok _) old new text = Prints old new text
IsPrinted (Err fault) old new text = Loses old new text

-- A text is written: all of it, or a front of it where the writer fails.
abbrev pub Wrote : Option (List ℕ) → Option (List ℕ) → List ℕ → Type 0
Wrote old new text = Loses (sink old []) (sink new []) text
