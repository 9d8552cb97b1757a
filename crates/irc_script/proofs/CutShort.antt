-- A run that memory or a device ended.
use Rattle.std.proofs.Common.{◌≡◌, ℕ, Option, Result, Ok, Err, IsErrAnd, List, [], ◌++◌, ap, sym}
use Rattle.std.proofs.Common.{◌∙◌, append-nil, append_assoc, inr, refl, subst}
use Rattle.irc_script.specs.Loops.Steps.{RunInto, ScriptsRunOn}
use Rattle.irc_script.specs.RunLaws.{PrintsOneRoom}
use Rattle.irc_script.specs.Runs.{IsTextOf, CutShort, EndsEarly, OutOfMemory, Ran, RunsOut, StopsIn}
use Rattle.irc_script.specs.Networks.{first_net}
use Rattle.irc_script.specs.Scripts.{ScriptAsked, script_read}
use Rattle.irc_script.specs.Sinks.{sink}
use Rattle.irc_script.specs.Faults.{fault_of as fault_by}
use Rattle.irc_script.specs.declared.fault.SimFault.{SimFault}
use Rattle.irc_script.specs.declared.fault.Trouble.{Trouble}
use Rattle.irc_script.specs.declared.fault.Trouble.TheVariants.{Memory, Device as NoDevice}

-- a run that was broken off
pub cut_short : {trouble : Trouble} → PrintsOneRoom → ScriptsRunOn
    → (remaining old new : Option (List ℕ)) (text : List ℕ) (asked : ScriptAsked)
    → IsTextOf text remaining → script_read text ≡ Ok asked
    → RunInto trouble (first_net asked.servers) asked.requests (sink old []) (sink new [])
    → CutShort remaining old new
cut_short law on remaining old new text asked is_text read p =
    let run = on text asked p.text read p.begins in record {
      text = text;
      is_text = is_text;
      asked = asked;
      read = read;
      last = run.last;
      whole = run.whole;
      runs = run.runs;
      one_room = law text asked asked.requests [] run.last run.whole read
          (sym (append-nil asked.requests)) run.runs;
      printed = p.loses.prints.written;
      appended = p.loses.prints.appended;
      front = record {
        more = p.loses.lost ++ run.front.more;
        whole_is = run.front.whole_is ∙ ap (λ t. t ++ run.front.more) p.loses.prints.whole
            ∙ append_assoc p.loses.prints.written p.loses.lost run.front.more;
      };
    }

-- nothing of what came before is lost where memory was wanting
pub out_of_memory : PrintsOneRoom → ScriptsRunOn → (remaining old new : Option (List ℕ))
    (text : List ℕ) (asked : ScriptAsked) → IsTextOf text remaining → script_read text ≡ Ok asked
    → RunInto Memory (first_net asked.servers) asked.requests (sink old []) (sink new [])
    → OutOfMemory remaining old new
unfolding cut_short
out_of_memory law on remaining old new text asked is_text read p =
    let so = p.whole refl in record {
      cut = cut_short law on remaining old new text asked is_text read p;
      stops = subst (λ t. StopsIn (first_net asked.servers) asked.requests t)
          (p.loses.prints.whole ∙ ap (λ l. p.loses.prints.written ++ l) so.kept
          ∙ append-nil p.loses.prints.written) so.stops;
    }

-- how a run ends that a trouble ends
abbrev pub EndsBy : Trouble → Option (List ℕ) → Option (List ℕ) → Option (List ℕ) → Type 0
EndsBy Memory remaining old new = RunsOut remaining old new
EndsBy NoDevice remaining old new = EndsEarly remaining old new

pub ends_by : (trouble : Trouble) → PrintsOneRoom → ScriptsRunOn
    → (remaining old new : Option (List ℕ)) (text : List ℕ) (asked : ScriptAsked)
    → IsTextOf text remaining → script_read text ≡ Ok asked
    → RunInto trouble (first_net asked.servers) asked.requests (sink old []) (sink new [])
    → EndsBy trouble remaining old new
ends_by Memory law on remaining old new text asked is_text read p =
    inr (out_of_memory law on remaining old new text asked is_text read p)
ends_by NoDevice law on remaining old new text asked is_text read p =
    inr (cut_short law on remaining old new text asked is_text read p)

-- a trouble ends a run
pub ran_early : (r : Result (Unit {0}) SimFault) (trouble : Trouble)
    (remaining old new : Option (List ℕ)) → IsErrAnd r (λ fault. fault ≡ fault_by trouble)
    → EndsBy trouble remaining old new → Ran remaining r old new
ran_early (Ok _) trouble remaining old new is p = absurd is
ran_early (Err fault) Memory remaining old new is p =
    subst (λ f. Ran remaining (Err f) old new) (sym is) p
ran_early (Err fault) NoDevice remaining old new is p =
    subst (λ f. Ran remaining (Err f) old new) (sym is) p
