-- Lengths of the two lines with which a link begins.
use Rattle.std.proofs.Common.{◌≡◌, ℕ, ◌+◌, ◌≤◌, List, length, arith}
use Rattle.std.proofs.lemmas.Bool.Decides.{nat_tests}
use Rattle.irc_line.specs.Messages.{joined_text}
use Rattle.irc_line.specs.Lemmas.Lengths.{length-joined_text}
use Rattle.irc_names.specs.Lemmas.RuleFacts.{server-fits}
use Rattle.irc_routes.specs.Info.{IsInfo}
use Rattle.irc_link_words.specs.GreetingLines.{pass_parts, greeting}
use Rattle.irc_link_words.specs.Passwords.{IsPassword}
use Rattle.irc_link_words.specs.WholeLines.{PassFits, GreetingFits}

password_short : (password : List ℕ) → IsPassword password → length password ≤ 20
password_short password rule = grind (arith, nat_tests)

info_short : (info : List ℕ) → IsInfo info → length info ≤ 63
info_short info rule = grind (arith, nat_tests)

pass_size : (all password : ℕ) → all ≡ 0 + (4 + (1 + password + 17 + 0)) → password ≤ 20 → all ≤ 510
pass_size all password all_is fits = omega arith

pub pass_fits : PassFits
pass_fits password rule =
    pass_size (length (joined_text (pass_parts password))) (length password)
    (length-joined_text (pass_parts password)) (password_short password rule)

greeting_size : (all name info : ℕ) → all ≡ 0 + (6 + (1 + name + 4 + (2 + info))) → name ≤ 63
    → info ≤ 63 → all ≤ 510
greeting_size all name info all_is name_fits info_fits = omega arith

pub greeting_fits : GreetingFits
greeting_fits known name_so info_so =
    greeting_size (length (joined_text (greeting known))) (length known.name)
    (length known.about.info)
    (length-joined_text (greeting known))
    (server-fits known.name name_so) (info_short known.about.info info_so)
