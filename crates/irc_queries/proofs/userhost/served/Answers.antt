use Rattle.std.proofs.Common.{List, ℕ, take, sym, ◌∙◌, ap}
use Rattle.std.proofs.lemmas.List.{take_min, take-map}
use Rattle.std.specs.Borrow.{Bor}
use Rattle.irc_line.specs.PartViews.{words_now}
use Rattle.irc_queries.specs.Limits.{max_hosts_asked}
use Rattle.irc_queries.proofs.userhost.served.Goals as goal

pub returns : goal.returns
returns c =
    let words = c.args.words.now in
    ap words_now (ap (λ n. take n words) c.min.ensures ∙ take_min max_hosts_asked words)
    ∙ sym (take-map (λ (word : Bor (List ℕ)). word.now) max_hosts_asked words)
