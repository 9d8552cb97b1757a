use Rattle.std.proofs.Common.{◌≡◌, ◌++◌, map, drop, string_bytes}
use Rattle.std.specs.List.{list_all, filter_map}
use Rattle.toml.specs.Data.{as_str}
use Rattle.toml.specs.View.{view}
use Rattle.irc_settings.specs.Keys.{is_text}
use Rattle.irc_settings.proofs.texts.all_texts.Given as goal

-- what is found stands before what the values that are left tell
abbrev pub invariant-loop-value : goal.invariant-loop-value
invariant-loop-value l = record {
  tested : list_all is_text (map view l.fn.values) ≡ list_all is_text
      (map view (drop l.value-index l.values));
  told : filter_map as_str (map view l.fn.values) ≡ map string_bytes l.found.items
      ++ filter_map as_str (map view (drop l.value-index l.values));
}
