-- The examples.
use Rattle.std.proofs.Common.{◌≡◌, ◌≢◌, ℕ, Bool, true, false, nat_lt, if◌then◌else◌}
use Rattle.std.proofs.Common.{◌++◌, inl, inr, refl, arith}
use Rattle.std.proofs.lemmas.Bool.Decides.{nat_tests}
use Rattle.irc_relay.specs.Links.{Name, same, part, links_without}
use Rattle.irc_relay.specs.Laws.{TheWayIsAWalk}
use Rattle.irc_relay.specs.Lemmas.TellingNames.{same_when}
use Rattle.irc_documents.specs.Editing.{HasDiamond}
use Rattle.irc_documents.specs.Pieces.{in_pieces}
use Rattle.irc_documents.specs.Networks.{after_all, AllMayBe}
use Rattle.irc_documents.specs.Examples.{Act, write, nothing, written_to, MayWrite, greater}
use Rattle.irc_documents.specs.Examples.{register, WritesCross, RegisterGoesWell, a_net, b_net}
use Rattle.irc_documents.specs.Examples.{c_net, start, crossing, read, later, again, LineRests}
use Rattle.irc_documents.specs.Examples.{WrongOnesDiffer}
use Rattle.irc_documents.specs.Lemmas.CrossingLists.{pieces_have_diamond}
use Rattle.irc_documents.specs.Lemmas.NetworksRun.{all_goes_well}

-- ---- the register

same_end : (a b : ℕ) (less more : Bool) → nat_lt a b ≡ less → nat_lt b a ≡ more
    → written_to a (if less then write b else nothing)
    ≡ written_to b (if more then write a else nothing)
same_end a b true true e f = grind (arith, nat_tests)
same_end a b true false e f = refl
same_end a b false true e f = refl
same_end a b false false e f = grind (arith, nat_tests)

may_end : (a b : ℕ) (less : Bool) → nat_lt a b ≡ less
    → MayWrite a (if less then write b else nothing)
may_end a b true e = λ f. grind (arith, nat_tests)
may_end a b false e = tt

diamond : HasDiamond register
diamond = record { same = meet; may_behind = behind }
  where
    meet : (s : ℕ) (a b : Act) → MayWrite s a → MayWrite s b
        → written_to (written_to s a) (greater s b a)
        ≡ written_to (written_to s b) (greater s a b)
    meet s (write a) (write b) m n = same_end a b (nat_lt a b) (nat_lt b a) refl refl
    meet s (write a) nothing m n = refl
    meet s nothing (write b) m n = refl
    meet s nothing nothing m n = refl

    behind : (s : ℕ) (a b : Act) → MayWrite s a → MayWrite s b
        → MayWrite (written_to s a) (greater s b a)
    behind s (write a) (write b) m n = may_end a b (nat_lt a b) refl
    behind s (write a) nothing m n = tt
    behind s nothing (write b) m n = n
    behind s nothing nothing m n = tt

pub writes_cross : WritesCross
writes_cross = record {
  diamond = diamond;
  five = refl;
  three = refl;
  through_log = refl;
  log_behind = refl;
  theirs = refl;
  ours = refl;
}

-- ---- all goes well with it

pub register_goes_well : TheWayIsAWalk → RegisterGoesWell
register_goes_well is_a_walk = record {
  one_by_one = all_goes_well register is_a_walk diamond;
  in_any_pieces = λ cut. all_goes_well (in_pieces register cut) is_a_walk
      (pieces_have_diamond register diamond cut);
}

-- ---- the line

differ : (s t : Name) → same s t ≡ false → s ≢ t
differ s t f e = let w = same_when s t e in cc

seven : ◌≢◌ {A = ℕ} 7 0
seven e = omega arith

five : ◌≢◌ {A = ℕ} 5 0
five e = omega arith

three : ◌≢◌ {A = ℕ} 3 7
three e = omega arith

nine : ◌≢◌ {A = ℕ} 9 3
nine e = omega arith

four : ◌≢◌ {A = ℕ} 4 3
four e = omega arith

nine_of_none : ◌≢◌ {A = ℕ} 9 0
nine_of_none e = omega arith

four_of_none : ◌≢◌ {A = ℕ} 4 0
four_of_none e = omega arith

-- both write while they are apart, and tell that
again_may : AllMayBe register (after_all register start (crossing ++ read ++ later)) again
unfolding part links_without
again_may = (
  inl (inl (refl, refl)),
  (
    nine,
    (
      four,
      (
        record {
          apart = differ c_net a_net refl;
          near_makes = record { may = (nine_of_none, tt); made = refl };
          far_makes = record { may = (four_of_none, tt); made = refl };
        },
        (
          inl (inl (refl, refl)),
          (
            inl (inr (refl, refl)),
            (inr (inl (inr (refl, refl))), (inr (inl (inr (refl, refl))), tt)),
          ),
        ),
      ),
    ),
  ),
)

pub line_rests : LineRests
unfolding part links_without
line_rests = record {
  may = (
    record {
      apart = differ a_net b_net refl;
      near_makes = record { may = (seven, tt); made = refl };
      far_makes = record { may = tt; made = refl };
    },
    (
      record {
        apart = differ a_net c_net refl;
        near_makes = record { may = tt; made = refl };
        far_makes = record { may = tt; made = refl };
      },
      (
        five,
        (
          inr (inl (inl (refl, refl))),
          (
            inl (inr (refl, refl)),
            (
              inl (inl (refl, refl)),
              (
                inr (inl (inr (refl, refl))),
                (
                  three,
                  (
                    inr (inl (inr (refl, refl))),
                    (inr (inl (inl (refl, refl))), (inl (inl (refl, refl)), again_may)),
                  ),
                ),
              ),
            ),
          ),
        ),
      ),
    ),
  );
  crossed = refl;
  on_way = refl;
  seven = refl;
  none_on_way = refl;
  three = refl;
  at_rest = refl;
  nine = refl;
}

pub wrong_ones_differ : WrongOnesDiffer
wrong_ones_differ = record { by_greater = refl; as_they_came = refl; neither = refl }
