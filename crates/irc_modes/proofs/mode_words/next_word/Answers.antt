use Rattle.std.proofs.Common.{ℕ, List, [], Bor, sym}
use Rattle.irc_modes.proofs.ModeSteps.{next_at}
use Rattle.irc_modes.proofs.mode_words.next_word.Goals as goal

pub returns-then-used-words : goal.returns-then-used-words
returns-then-used-words c =
    let now = λ (word : Bor (List ℕ)). word.now in
    sym (next_at now c.args.words.now c.args.used
    (record { ref_ptr = (0, 0); now = [] }) c.if-used-words.true)
