use Rattle.std.proofs.Common.{◌∙◌, sym, List, ℕ}
use Rattle.std.specs.Borrow.{Bor}
use Rattle.std.specs.Cmp.Derive.Mapped.{pointwise-map}
use Rattle.std.specs.Str.{bytes_eq}
use Rattle.irc_crossing.proofs.hearing.are_same.Goals as goal

pub returns : goal.returns
returns c = c.eq.ensures ∙ sym
    (pointwise-map (λ (word : Bor (List ℕ)). word.now) bytes_eq c.args.words.now c.args.others.now)
