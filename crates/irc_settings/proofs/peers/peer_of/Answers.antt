use Rattle.std.proofs.Common.{◌≡◌, ◌&&◌, true, ap, sym, ◌∙◌, rules}
use Rattle.std.specs.List.{list_all}
use Rattle.toml.specs.View.{table_view}
use Rattle.irc_settings.specs.Keys.{peer_keys, is_called_if_told_how, is_kept, is_peer}
use Rattle.irc_settings.proofs.KeysOfTables.{unknown_key, all_kept}
use Rattle.irc_settings.proofs.peers.peer_of.Goals as goal

pub returns-then-not-has_only : goal.returns-then-not-has_only
returns-then-not-has_only c =
    ap (λ b. b && is_called_if_told_how (table_view c.args.table.now))
    (unknown_key peer_keys c.args.table.now.entries (sym c.has_only.ensures ∙ search rules))

pub returns : goal.returns
returns c =
    let kept : list_all (is_kept (table_view c.args.table.now)) peer_keys ≡ true =
    rw (
      c.in_ok-text.ensures.0,
      c.in_ok-text-2.ensures.0,
      c.in_ok-optional_text.ensures.0,
      c.in_ok-optional_number.ensures.0,
      c.in_ok-flag.ensures.0,
    ) in
    let passes : is_peer (table_view c.args.table.now) ≡ true =
    ap (λ b. b && is_called_if_told_how (table_view c.args.table.now))
    (all_kept peer_keys c.args.table.now.entries (sym c.has_only.ensures ∙ search rules) kept)
    ∙ (sym c.is_called_if_told_how.ensures ∙ search rules) in (
      passes,
      rw (
        c.in_ok-text.ensures.1,
        c.in_ok-text-2.ensures.1,
        c.in_ok-optional_text.ensures.1,
        c.in_ok-optional_number.ensures.1,
        c.in_ok-flag.ensures.1,
      ),
    )
