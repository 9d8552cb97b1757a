use Rattle.std.proofs.Common.{◌∙◌, sym}
use Rattle.irc_crossing.specs.Loops.Comers.{are_comers}
use Rattle.irc_crossing.proofs.Passing.{comers_pass, comers_stay}
use Rattle.irc_crossing.proofs.log.pass_one.Goals as goal

pub returns-then-are_comers-clause-became : goal.returns-then-are_comers-clause-became
returns-then-are_comers-clause-became c =
    comers_pass c.args.theirs c.args.ours.now
    ((λ i. are_comers (sym c.as_ref.ensures.value i) (sym c.as_ref-2.ensures.value i))
    ∙ sym c.are_comers.ensures ∙ c.if-are_comers.true)

pub returns-then-are_comers-clause-behind : goal.returns-then-are_comers-clause-behind
returns-then-are_comers-clause-behind c =
    comers_stay c.args.theirs c.args.ours.now
    ((λ i. are_comers (sym c.as_ref.ensures.value i) (sym c.as_ref-2.ensures.value i))
    ∙ sym c.are_comers.ensures ∙ c.if-are_comers.true)
