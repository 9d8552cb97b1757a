-- The examples.
use Rattle.std.proofs.Common.{◌≡◌, ◌≢◌, false, refl, inl, inr}
use Rattle.irc_relay.specs.Links.{Name, same, part}
use Rattle.irc_relay.specs.Lemmas.TellingNames.{same_when}
use Rattle.irc_brakes.specs.Examples.{LineIsRead, TriangleWaits, a_net, b_net, c_net, d_net}

differ : (s t : Name) → same s t ≡ false → s ≢ t
differ s t f e = let w = same_when s t e in cc

pub line_is_read : LineIsRead
unfolding part
line_is_read = record {
  forest =
      (differ a_net b_net refl, (differ b_net c_net refl, (differ c_net d_net refl, tt)));
  chain = (
    record {
      linked = inl (inl (refl, refl));
      linked_on = inr (inl (inl (refl, refl)));
      here = refl;
      onward = differ c_net a_net refl;
      too_much = refl;
    },
    (
      record {
        linked = inr (inl (inl (refl, refl)));
        linked_on = inr (inr (inl (inl (refl, refl))));
        here = refl;
        onward = differ d_net b_net refl;
        too_much = refl;
      },
      refl,
    ),
  );
  down = refl;
  up = refl;
}

pub triangle_waits : TriangleWaits
unfolding part
triangle_waits = record {
  no_forest = λ forest. forest.0 refl;
  chain = (
    record {
      linked = inl (inl (refl, refl));
      linked_on = inr (inl (inl (refl, refl)));
      here = refl;
      onward = differ c_net a_net refl;
      too_much = refl;
    },
    (
      record {
        linked = inr (inl (inl (refl, refl)));
        linked_on = inr (inr (inl (inl (refl, refl))));
        here = refl;
        onward = differ a_net b_net refl;
        too_much = refl;
      },
      (
        record {
          linked = inr (inr (inl (inl (refl, refl))));
          linked_on = inl (inl (refl, refl));
          here = refl;
          onward = differ b_net c_net refl;
          too_much = refl;
        },
        refl,
      ),
    ),
  );
  none_is_read = refl;
}
