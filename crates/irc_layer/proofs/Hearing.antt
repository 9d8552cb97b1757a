-- Lines of a piece, one after another.
use Rattle.std.proofs.Common.{◌≡◌, ℕ, Option, List, [], ◌∷◌, refl, sym, ap}
use Rattle.std.proofs.Common.{subst, Bool, true, false, Result, Ok, Err, IfErr, OnOk}
use Rattle.std.proofs.Common.{IsErrAnd}
use Rattle.irc_server.specs.declared.event.Event.{Event}
use Rattle.irc_server.specs.declared.event.ServerFault.{ServerFault}
use Rattle.irc_server.specs.declared.event.ServerFault.TheVariants.{Memory}
use Rattle.irc_engine.specs.Machines.{is_out_of_memory}
use Rattle.irc_pieces.specs.declared.count.Mark.{Mark}
use Rattle.irc_layer.specs.Layers.{by_itself, is_heard, Handles, HearsAll, HearsOne, IsRefusedBy}
use Rattle.irc_layer.specs.Layers.{Passes, State}
use Rattle.irc_layer.specs.Layers.Handles.{passes, refuses, wants_memory}
use Rattle.irc_layer.specs.Layers.HearsAll.{all_heard, hears_more}

-- what was heard so far of a piece, and one line more
pub record HeardTo (mark : Option Mark) (link : ℕ) (all rest : List (List ℕ))
    (first now : State) : Type 0 where
  pub completes : (last : State) → HearsAll mark link rest now last
      → HearsAll mark link all first last

pub heard_none : (mark : Option Mark) (link : ℕ) (all rest : List (List ℕ)) (first : State)
    → rest ≡ all → HeardTo mark link all rest first first
heard_none mark link all rest first is = record {
  completes = λ last others.
      subst (λ (lines : List (List ℕ)). HearsAll mark link lines first last) is others;
}

pub heard_on : (mark : Option Mark) (link : ℕ) (all rest more : List (List ℕ)) (line : List ℕ)
    (first now next : State) → rest ≡ line ∷ more → HearsOne mark link line now next
    → HeardTo mark link all rest first now → HeardTo mark link all more first next
heard_on mark link all rest more line first now next is one so_far = record {
  completes = λ last others. so_far.completes last
      (subst (λ (lines : List (List ℕ)). HearsAll mark link lines now last) (sym is)
      (hears_more one others));
}

pub heard_whole : (mark : Option Mark) (link : ℕ) (all rest : List (List ℕ)) (first now : State)
    → rest ≡ [] → HeardTo mark link all rest first now → HearsAll mark link all first now
heard_whole mark link all rest first now none so_far = so_far.completes now
    (subst (λ (lines : List (List ℕ)). HearsAll mark link lines now now) (sym none) all_heard)

-- ---- an event

module _ (old new : State) (event : Event) where
  not_heard : (fault : ServerFault) → is_heard event old.layer.ends ≡ false
      → (is_out_of_memory fault ≡ false → IsRefusedBy event old new fault)
      → Handles old event new (Err fault)
  not_heard fault none refused = by (is_out_of_memory fault) refl
    where
      by : (b : Bool) → is_out_of_memory fault ≡ b → Handles old event new (Err fault)
      by true is = wants_memory fault is
      by false is = refuses fault none is (refused is)

  -- an event that is no line of a link with an end
  pub passed_on : (r : Result (Unit {0}) ServerFault) → is_heard event old.layer.ends ≡ false
      → OnOk r (Passes by_itself event old new)
      → IfErr r (λ fault. is_out_of_memory fault ≡ false → IsRefusedBy event old new fault)
      → Handles old event new r
  passed_on (Ok _) none passing refused = passes none passing
  passed_on (Err fault) none passing refused = not_heard fault none refused

  -- one for which there is no memory
  pub no_memory : (r : Result (Unit {0}) ServerFault) → IsErrAnd r (λ fault. fault ≡ Memory)
      → Handles old event new r
  no_memory (Ok _) failed = absurd failed
  no_memory (Err fault) failed =
      wants_memory fault (ap (λ (f : ServerFault). is_out_of_memory f) failed)
