use Rattle.std.proofs.Common.{List, subst, sym, ◌∙◌}
use Rattle.irc_relay.specs.Links.{part, IsForest}
use Rattle.irc_relay.specs.NewsNet.{links_of}
use Rattle.irc_relay.specs.declared.news.Edge.{Edge}
use Rattle.tests_rooms.proofs.relay.star.Goals as goal

pub returns-clause-forest : goal.returns-clause-forest
unfolding part
returns-clause-forest c =
    subst (λ (edges : List Edge). IsForest (links_of edges)) (sym
    (c.new.ensures.edges ∙ c.in_ok-edges.ensures.items)) (λ e. cc, (λ e. cc, (λ e. cc, tt)))
