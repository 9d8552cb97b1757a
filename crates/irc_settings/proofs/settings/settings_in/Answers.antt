use Rattle.std.proofs.Common.{Bool, ◌≡◌, ◌&&◌, true, [], drop, map, option_map, pos, refl, sym}
use Rattle.std.proofs.Common.{◌∙◌, rules}
use Rattle.std.specs.Prelude.{ℕ, Option, String, Vec, codes, string_bytes}
use Rattle.std.specs.declared.alloc.Global.{Global}
use Rattle.std.specs.List.{list_all}
use Rattle.std.specs.Cmp.{second_so, first_so}
use Rattle.toml.specs.View.{table_view}
use Rattle.irc_settings.specs.Configuration.{Tells, flag_at, integer_at, limit_at, pace_at}
use Rattle.irc_settings.specs.Configuration.{pace_told, peer_at}
use Rattle.irc_settings.specs.Configuration.{peer_told, tables_at, text_at, texts_at}
use Rattle.irc_settings.specs.Keys.{flag, integer, is_in_form, is_kept, is_peer, optional}
use Rattle.irc_settings.specs.Keys.{server_keys}
use Rattle.irc_settings.specs.Keys.{tables, text, texts}
use Rattle.irc_settings.specs.declared.settings.LinesPace.{LinesPace}
use Rattle.irc_settings.specs.declared.settings.PeerSettings.{PeerSettings}
use Rattle.irc_settings.proofs.KeysLost.{key_lost, pair_lost, refused}
use Rattle.irc_settings.proofs.KeysOfTables.{unknown_key, all_kept}
use Rattle.irc_settings.proofs.settings.settings_in.Goals as goal

pub returns-then-not-has_only : goal.returns-then-not-has_only
returns-then-not-has_only c =
    unknown_key server_keys c.args.document.now.entries (sym c.has_only.ensures ∙ search rules)

pub returns-in_err-limit : goal.returns-in_err-limit
returns-in_err-limit c =
    let table = table_view c.args.document.now in
    let key = optional (codes "name_within") (integer 0 3600) in
    refused (is_kept table key) (is_in_form server_keys table)
    (λ (found : Option ℕ). limit_at (codes "name_within") 10 table ≡ option_map pos found)
    (Tells table) c.from_residual-in_err-limit.result c.in_err-limit.field-0.0
    (key_lost 8 server_keys key (drop 9 server_keys) table refl)
    c.in_err-limit.ensures c.from_residual-in_err-limit.ensures.1

pub returns-in_err-limit-2 : goal.returns-in_err-limit-2
returns-in_err-limit-2 c =
    let table = table_view c.args.document.now in
    let key = optional (codes "links_per_address") (integer 0 65535) in
    refused (is_kept table key) (is_in_form server_keys table)
    (λ (found : Option ℕ). limit_at (codes "links_per_address") 16 table ≡ option_map pos found)
    (Tells table) c.from_residual-in_err-limit-2.result c.in_err-limit-2.field-0.0
    (key_lost 9 server_keys key (drop 10 server_keys) table refl)
    c.in_err-limit-2.ensures c.from_residual-in_err-limit-2.ensures.1

pub returns-in_err-optional_number-2 : goal.returns-in_err-optional_number-2
returns-in_err-optional_number-2 c =
    let table = table_view c.args.document.now in
    let key = optional (codes "register_within") (integer 1 3600) in
    refused (is_kept table key) (is_in_form server_keys table)
    (λ (found : Option ℕ). integer_at (codes "register_within") table ≡ option_map pos found)
    (Tells table) c.from_residual-in_err-optional_number-2.result
    c.in_err-optional_number-2.field-0.0
    (key_lost 10 server_keys key (drop 11 server_keys) table refl)
    c.in_err-optional_number-2.ensures c.from_residual-in_err-optional_number-2.ensures.1

pub returns-in_err-pace : goal.returns-in_err-pace
returns-in_err-pace c =
    let table = table_view c.args.document.now in
    let key = optional (codes "lines_per_second") (integer 1 1000) in
    let other = optional (codes "burst_lines") (integer 1 1000) in
    refused (is_kept table key && is_kept table other) (is_in_form server_keys table)
    (λ (found : Option LinesPace). pace_at table ≡ option_map pace_told found) (Tells table)
    c.from_residual-in_err-pace.result c.in_err-pace.field-0.0
    (pair_lost 11 server_keys key other (drop 13 server_keys) table refl)
    c.in_err-pace.ensures c.from_residual-in_err-pace.ensures.1

pub returns-in_err-flag : goal.returns-in_err-flag
returns-in_err-flag c =
    let table = table_view c.args.document.now in
    let key = optional (codes "programs") flag in
    refused (is_kept table key) (is_in_form server_keys table)
    (λ (found : Bool). flag_at (codes "programs") table ≡ found) (Tells table)
    c.from_residual-in_err-flag.result c.in_err-flag.field-0.0
    (key_lost 13 server_keys key (drop 14 server_keys) table refl)
    c.in_err-flag.ensures c.from_residual-in_err-flag.ensures.1

pub returns-in_err-optional_text-2 : goal.returns-in_err-optional_text-2
returns-in_err-optional_text-2 c =
    let table = table_view c.args.document.now in
    let key = optional (codes "motd") text in
    refused (is_kept table key) (is_in_form server_keys table)
    (λ (found : Option (String Global)). text_at (codes "motd") table
    ≡ option_map string_bytes found)
    (Tells table) c.from_residual-in_err-optional_text-2.result c.in_err-optional_text-2.field-0.0
    (key_lost 14 server_keys key (drop 15 server_keys) table refl)
    c.in_err-optional_text-2.ensures c.from_residual-in_err-optional_text-2.ensures.1

pub returns-in_err-optional_text-3 : goal.returns-in_err-optional_text-3
returns-in_err-optional_text-3 c =
    let table = table_view c.args.document.now in
    let key = optional (codes "password") text in
    refused (is_kept table key) (is_in_form server_keys table)
    (λ (found : Option (String Global)). text_at (codes "password") table
    ≡ option_map string_bytes found)
    (Tells table) c.from_residual-in_err-optional_text-3.result c.in_err-optional_text-3.field-0.0
    (key_lost 15 server_keys key (drop 16 server_keys) table refl)
    c.in_err-optional_text-3.ensures c.from_residual-in_err-optional_text-3.ensures.1

pub returns-in_err-optional_number-3 : goal.returns-in_err-optional_number-3
returns-in_err-optional_number-3 c =
    let table = table_view c.args.document.now in
    let key = optional (codes "ping_after") (integer 1 3600) in
    refused (is_kept table key) (is_in_form server_keys table)
    (λ (found : Option ℕ). integer_at (codes "ping_after") table ≡ option_map pos found)
    (Tells table) c.from_residual-in_err-optional_number-3.result
    c.in_err-optional_number-3.field-0.0
    (key_lost 16 server_keys key (drop 17 server_keys) table refl)
    c.in_err-optional_number-3.ensures c.from_residual-in_err-optional_number-3.ensures.1

pub returns-in_err-texts : goal.returns-in_err-texts
returns-in_err-texts c =
    let table = table_view c.args.document.now in
    let key = optional (codes "deny") texts in
    refused (is_kept table key) (is_in_form server_keys table)
    (λ (found : Vec (String Global) Global).
    texts_at (codes "deny") table ≡ map string_bytes found.items) (Tells table)
    c.from_residual-in_err-texts.result c.in_err-texts.field-0.0
    (key_lost 17 server_keys key (drop 18 server_keys) table refl)
    c.in_err-texts.ensures c.from_residual-in_err-texts.ensures.1

pub returns-in_err-texts-2 : goal.returns-in_err-texts-2
returns-in_err-texts-2 c =
    let table = table_view c.args.document.now in
    let key = optional (codes "proxies") texts in
    refused (is_kept table key) (is_in_form server_keys table)
    (λ (found : Vec (String Global) Global).
    texts_at (codes "proxies") table ≡ map string_bytes found.items) (Tells table)
    c.from_residual-in_err-texts-2.result c.in_err-texts-2.field-0.0
    (key_lost 18 server_keys key (drop 19 server_keys) table refl)
    c.in_err-texts-2.ensures c.from_residual-in_err-texts-2.ensures.1

pub returns-in_err-peers : goal.returns-in_err-peers
returns-in_err-peers c =
    let table = table_view c.args.document.now in
    let key = optional (codes "peer") (tables is_peer) in
    refused (is_kept table key) (is_in_form server_keys table)
    (λ (found : Vec PeerSettings Global).
    map peer_at (tables_at (codes "peer") table) ≡ map peer_told found.items) (Tells table)
    c.from_residual-in_err-peers.result c.in_err-peers.field-0.0
    (key_lost 19 server_keys key [] table refl)
    c.in_err-peers.ensures c.from_residual-in_err-peers.ensures.1

pub returns : goal.returns
returns c =
    let table = table_view c.args.document.now in
    let per_second = is_kept table (optional (codes "lines_per_second") (integer 1 1000)) in
    let burst = is_kept table (optional (codes "burst_lines") (integer 1 1000)) in
    let kept : list_all (is_kept (table_view c.args.document.now)) server_keys ≡ true = rw (
      c.in_ok-text.ensures.0,
      c.in_ok-text-2.ensures.0,
      c.in_ok-text-3.ensures.0,
      c.in_ok-text-4.ensures.0,
      c.in_ok-room.ensures.0,
      c.in_ok-room-2.ensures.0,
      c.in_ok-optional_text.ensures.0,
      c.in_ok-optional_number.ensures.0,
      c.in_ok-limit.ensures.0,
      c.in_ok-limit-2.ensures.0,
      c.in_ok-optional_number-2.ensures.0,
      first_so per_second burst c.in_ok-pace.ensures.0,
      second_so per_second burst c.in_ok-pace.ensures.0,
      c.in_ok-flag.ensures.0,
      c.in_ok-optional_text-2.ensures.0,
      c.in_ok-optional_text-3.ensures.0,
      c.in_ok-optional_number-3.ensures.0,
      c.in_ok-texts.ensures.0,
      c.in_ok-texts-2.ensures.0,
      c.in_ok-peers.ensures.0,
    ) in (
      all_kept server_keys c.args.document.now.entries (sym c.has_only.ensures ∙ search rules) kept,
      record {
        name = c.in_ok-text.ensures.1;
        info = c.in_ok-text-2.ensures.1;
        created = c.in_ok-text-3.ensures.1;
        listen = c.in_ok-text-4.ensures.1;
        client_room = c.in_ok-room.ensures.1;
        link_room = c.in_ok-room-2.ensures.1;
        listen_links = c.in_ok-optional_text.ensures.1;
        connections_per_address = c.in_ok-optional_number.ensures.1;
        name_within = c.in_ok-limit.ensures.1;
        links_per_address = c.in_ok-limit-2.ensures.1;
        register_within = c.in_ok-optional_number-2.ensures.1;
        pace = c.in_ok-pace.ensures.1;
        programs = c.in_ok-flag.ensures.1;
        motd = c.in_ok-optional_text-2.ensures.1;
        password = c.in_ok-optional_text-3.ensures.1;
        ping_after = c.in_ok-optional_number-3.ensures.1;
        deny = c.in_ok-texts.ensures.1;
        proxies = c.in_ok-texts-2.ensures.1;
        peers = c.in_ok-peers.ensures.1;
      },
    )
