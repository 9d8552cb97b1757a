use Rattle.std.proofs.Common.{Bor, List, ℕ, map, drop, get_or, sym, refl, ◌∙◌, ap}
use Rattle.irc_modes.specs.ModeWords.{reading}
use Rattle.irc_modes.specs.ModeViews.{all_asked, letter_read}
use Rattle.irc_modes.proofs.ModeSteps.{after_sign, after_letter, one_more}
use Rattle.irc_modes.proofs.mode_words.read_letters.Goals as goal

abbrev texts : List (Bor (List ℕ)) → List (List ℕ)
texts words = map (λ word. word.now) words

pub loop-byte-preserved-then-is_sign : goal.loop-byte-preserved-then-is_sign
loop-byte-preserved-then-is_sign c = record {
  so_far =
      after_sign c.loop-byte.plus _ c.args.letters.now c.loop-byte.byte-index _ c.loop-byte.limits
      (all_asked c.loop-byte.items.items) _
      c.loop-byte-test.true (sym c.is_sign.ensures
      ∙ c.if-is_sign.true) refl c.loop-byte.invariant.so_far;
  within = c.loop-byte.invariant.within;
}

pub loop-byte-preserved : goal.loop-byte-preserved
loop-byte-preserved c = record {
  so_far = after_letter c.loop-byte.plus c.args.letters.now c.loop-byte.byte-index
      (drop c.loop-byte.used (texts c.args.words.now)) _
      c.loop-byte.limits c.judge.new.limits (all_asked c.loop-byte.items.items)
      (all_asked c.add_if.new.items.items) _
      (letter_read c.read_letter-read.result) c.in_ok-verdict.verdict
      c.loop-byte-test.true (sym c.is_sign.ensures ∙ c.if-is_sign.false)
      (c.read_letter-read.ensures ∙ ap (reading c.loop-byte.plus
      (get_or c.args.letters.now c.loop-byte.byte-index 0)) c.next_word.ensures)
      c.used_after-used.ensures.after c.in_ok-verdict.ensures
      (one_more _ _ _ _ c.in_ok-add_if.ensures) c.loop-byte.invariant.so_far;
  within = c.used_after-used.ensures.within;
}
