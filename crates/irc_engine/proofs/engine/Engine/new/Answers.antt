use Rattle.std.proofs.Common.{refl, sym, ◌∙◌, ap}
use Rattle.std.specs.Ordering.{nat_cmp}
use Rattle.std.specs.List.{list_any}
use Rattle.std.specs.BTreeMap.{is_at}
use Rattle.std.specs.Map.{lookup}
use Rattle.irc_engine.specs.Carrying.{has_some_at, is_done_at}
use Rattle.irc_engine.proofs.KnowingLaws.{settled_new}
use Rattle.irc_engine.proofs.engine.Engine.new.Goals as goal

pub invariant_of-result : goal.invariant_of-result
invariant_of-result g c = record {
  settled = λ well. settled_new _ _ _ c.requires.nobody c.new-2.ensures
      (λ conn. ap (lookup (is_at (nat_cmp conn))) c.new-4.ensures.empty);
}

pub returns : goal.returns
returns g c = record {
  serves = refl;
  server_is = refl;
  is_blank = c.new.ensures;
  wire_is = refl;
  rooms_are = refl;
  no_connections = c.new-2.ensures;
  in_order = record {
    all_told = λ conn. ap (lookup (is_at (nat_cmp conn))) c.new-4.ensures.empty;
    noted = λ conn. ap (list_any (is_at (nat_cmp conn))) c.new-3.ensures.empty
        ∙ sym (ap has_some_at (c.new-2.ensures conn));
    none_done = λ conn. ap is_done_at (c.new-2.ensures conn);
  };
  reads_at_most = c.in_ok-buffer.ensures.len;
}
