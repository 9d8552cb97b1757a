use Rattle.irc_line.proofs.WrittenLaws.{words_go_on, no_words_yet}
use Rattle.irc_line.proofs.writing.push_words.Goals as goal

pub loop-word-init : goal.loop-word-init
loop-word-init c = record { still_cut = c.requires; pushed = no_words_yet _ c.requires }

pub loop-word-preserved : goal.loop-word-preserved
loop-word-preserved c = record {
  still_cut = c.push_cut-in-loop-word.ensures.still_cut;
  pushed = words_go_on _ _ _ _ c.args.words.now c.loop-word.word-index _ c.loop-word-test.true
      c.loop-word.invariant.pushed
      c.push_cut.ensures.appended c.push_cut-in-loop-word.ensures.appended;
}
