use Rattle.std.proofs.Common.{ℕ, ◌+◌, List, ◌∷◌, ◌++◌, ◌∙◌, sym, ap, take}
use Rattle.std.specs.Borrow.{Bor}
use Rattle.std.proofs.lemmas.Simd.{map-map}
use Rattle.irc_line.specs.Bytes.{cut, space}
use Rattle.irc_users.specs.declared.user.User.{User}
use Rattle.irc_numerics.specs.Replies.{spaced}
use Rattle.irc_numerics.specs.Lemmas.Cutting.{cut-nil}
use Rattle.irc_numerics.specs.Lemmas.Entries.{entry_goes_on}
use Rattle.irc_queries.specs.Userhost.{host_shown}
use Rattle.irc_queries.proofs.userhost.hosts_text.Goals as goal

pub loop-i-init : goal.loop-i-init
loop-i-init c = c.new-text.ensures ∙ cut-nil

pub loop-i-preserved : goal.loop-i-preserved
loop-i-preserved c =
    let text = c.loop-i.text.items in
    let users = c.args.users.now in
    let i = c.loop-i.i in
    let name = c.as_slice.ensures.value ∙ c.host_shown.ensures in
    let shown = host_shown c.args.programs in
    let now = λ (user : Bor User). user.now in
    let once = λ (user : Bor User). host_shown c.args.programs user.now in
    entry_goes_on once users i c.index-users-i.result _ _ c.loop-i-test.true c.index-users-i.is
    (c.loop-i.invariant ∙ ap (λ (hosts : List (List ℕ)). cut (spaced hosts))
    (map-map shown now (take i users)))
    (λ first. c.push_word.ensures.first first ∙ ap (λ n. cut (text ++ n)) name)
    (λ later. c.push_word.ensures.later later ∙ ap (λ n. cut (text ++ (space ∷ n))) name)
    ∙ ap (λ (hosts : List (List ℕ)). cut (spaced hosts))
    (sym (map-map shown now (take (i + 1) users)))
