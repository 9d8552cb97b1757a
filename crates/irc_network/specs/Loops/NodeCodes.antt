-- How a server of a network is stored.
use Rattle.std.specs.Prelude.{ℕ, Option, List, refl}
use Rattle.std.specs.Coded.{Coded, code_by, coded×, coded_ℕ, coded_list}
use Rattle.std.specs.FinMap.{FinMap, code}
use Rattle.std.specs.Ordering.{nat_cmp}
use Rattle.irc_stage.specs.View.{View}
use Rattle.irc_network.specs.Node.{Node}

abbrev pub text_code : Coded (List ℕ)
text_code = coded_list coded_ℕ

-- as its fields
abbrev pub node_code : Coded (Option View) → Coded Node
node_code server =
    code_by (Option View × FinMap nat_cmp (List (List ℕ)))
    (coded× server (code coded_ℕ (coded_list text_code))) (λ s. (s.server, s.queues))
    (λ p. record { server = p.0; queues = p.1 }) (λ _. refl)
