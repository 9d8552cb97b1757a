use Rattle.std.proofs.Common.{List, ℕ, drop, sym, ◌∙◌, ap}
use Rattle.std.proofs.lemmas.List.{drop_min, drop-map, take_rest}
use Rattle.std.specs.Borrow.{Bor}
use Rattle.irc_line.specs.PartViews.{words_now}
use Rattle.irc_acts.proofs.words.words_behind.Goals as goal

pub returns : goal.returns
returns c =
    let params = c.args.params.now in
    ap words_now (take_rest params c.min.result ∙ ap (λ n. drop n params) c.min.ensures
    ∙ drop_min c.args.first params)
    ∙ sym (drop-map (λ (word : Bor (List ℕ)). word.now) c.args.first params)
