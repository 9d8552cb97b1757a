-- What was printed stands, also where it is not seen to arrive.
use Rattle.std.proofs.Common.{ℕ, Option, Result, Ok, Err, OnOk, List, sym, append-nil}
use Rattle.std.specs.Io.KnownBytes.{Appends, Keeps}
use Rattle.irc_script.specs.declared.fault.Unwritten.{Unwritten}
use Rattle.irc_script.specs.Sinks.{Wrote}
use Rattle.irc_script.specs.Lemmas.Printed.{keeps_appended}
use Rattle.irc_script.specs.Lemmas.Sinking.{no_loss}

-- all of a text is a front of it
tells_all : (old new : Option (List ℕ)) (text : List ℕ) → Appends old new text → Wrote old new text
tells_all old new text appended =
    no_loss record { written = text; appended = appended; whole = sym (append-nil text) }

pub held_whole : (r : Result (Unit {0}) Unwritten) (held middle after : Option (List ℕ))
    (text : List ℕ) → Appends held middle text → Keeps middle after
    → OnOk r (Appends held after text)
held_whole (Ok _) held middle after text appended keeps =
    keeps_appended held middle after text appended keeps
held_whole (Err fault) held middle after text appended keeps = tt

pub held_front : (held middle after : Option (List ℕ)) (text : List ℕ) → Appends held middle text
    → Keeps middle after → Wrote held after text
held_front held middle after text appended keeps =
    tells_all held after text (keeps_appended held middle after text appended keeps)
