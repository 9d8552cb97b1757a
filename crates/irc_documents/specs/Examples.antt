-- A register of which the greater of two writes that cross stays, on a line of three servers.
use Rattle.std.specs.Prelude.{◌≡◌, ◌≢◌, ℕ, if◌then◌else◌, nat_lt}
use Rattle.std.specs.Prelude.{codes}
use Rattle.std.specs.Prelude.{List, [], ◌∷◌, ◌++◌, length, map}
use Rattle.std.proofs.Common.{refl}
use Rattle.irc_relay.specs.Links.{Name, same, Link}
use Rattle.irc_documents.specs.Editing.{DoTheSame, Editing, HasDiamond}
use Rattle.irc_documents.specs.Lists.{through, behind, all_through, behind_all}
use Rattle.irc_documents.specs.Pieces.{Cut, in_pieces}
use Rattle.irc_documents.specs.Laws.{AlwaysGoesWell}
use Rattle.irc_documents.specs.Networks.{Net, Step, given, counts_to, read_from, made, lost, begun}
use Rattle.irc_documents.specs.Networks.{after_all, AllMayBe}

-- ---- the register

pub data Act : Type 0 where
  write : ℕ → Act
  nothing : Act

abbrev pub written_to : ℕ → Act → ℕ
written_to n (write m) = m
written_to n nothing = n

-- a write changes the register
abbrev pub MayWrite : ℕ → Act → Type 0
MayWrite n (write m) = m ≢ n
MayWrite n nothing = Unit

-- the greater of two writes stays
abbrev pub greater : ℕ → Act → Act → Act
greater n (write b) (write a) = if nat_lt a b then write b else nothing
greater n (write b) nothing = write b
greater n nothing ours = nothing

-- nothing is not passed on
abbrev pub as_writes : Act → List Act
as_writes (write m) = write m ∷ []
as_writes nothing = []

pub as_whole : (n : ℕ) (act : Act) → MayWrite n act
    → DoTheSame written_to MayWrite n act (as_writes act)
as_whole n (write m) may = record { same = refl; may_all = (may, tt) }
as_whole n nothing may = record { same = refl; may_all = tt }

abbrev pub register : Editing ℕ Act
register = record {
  blank = 0;
  done = written_to;
  may = MayWrite;
  crossed = greater;
  told_as = as_writes;
  told_whole = as_whole;
}

-- ---- two writes that cross, and two lists of them

pub record WritesCross : Type 0 where
  pub diamond : HasDiamond register
  pub five : greater 0 (write 5) (write 3) ≡ write 5
  pub three : greater 0 (write 3) (write 5) ≡ nothing
  pub through_log : through register 0 (write 5) (write 3 ∷ write 7 ∷ []) ≡ nothing
  pub log_behind : behind register 0 (write 3 ∷ write 7 ∷ []) (write 5) ≡ nothing ∷ write 7 ∷ []
  pub theirs : all_through register 0 (write 5 ∷ write 1 ∷ []) (write 3 ∷ write 7 ∷ [])
      ≡ nothing ∷ nothing ∷ []
  pub ours : behind_all register 0 (write 3 ∷ write 7 ∷ []) (write 5 ∷ write 1 ∷ [])
      ≡ nothing ∷ write 7 ∷ []

-- so all goes well with it, one by one and in pieces, however they are cut
pub record RegisterGoesWell : Type 0 where
  pub one_by_one : AlwaysGoesWell register
  pub in_any_pieces : (cut : Cut register) → AlwaysGoesWell (in_pieces register cut)

-- ---- networks

abbrev pub a_net : Name
a_net = codes "a.net"

abbrev pub b_net : Name
b_net = codes "b.net"

abbrev pub c_net : Name
c_net = codes "c.net"

abbrev pub link : Name → Name → Link
link s t = record { near = s; far = t }

-- no links, and 7 at a
abbrev pub start : Net ℕ Act
start = record {
  links = [];
  doc = λ s. if same s a_net then 7 else 0;
  end = λ s t. begun register [];
  queue = λ s t. [];
}

-- a - b - c, over which a has told its 7, while c writes 5
abbrev pub crossing : List (Step Act)
crossing =
    made (link a_net b_net) (write 7 ∷ []) [] ∷ made (link b_net c_net) [] []
    ∷ given c_net (write 5) ∷ read_from a_net b_net ∷ []

-- b and c read what crossed
abbrev pub read : List (Step Act)
read = read_from c_net b_net ∷ read_from b_net c_net ∷ []

-- b counts for a, which writes 3 over the 7
abbrev pub later : List (Step Act)
later =
    counts_to b_net a_net ∷ given a_net (write 3) ∷ read_from b_net a_net ∷ read_from a_net b_net
    ∷ read_from b_net c_net ∷ []

-- the link between b and c is lost, both write, and it is made again, where each tells its own
abbrev pub again : List (Step Act)
again =
    lost b_net c_net ∷ given c_net (write 9) ∷ given b_net (write 4)
    ∷ made (link c_net b_net) (write 9 ∷ []) (write 4 ∷ []) ∷ read_from c_net b_net
    ∷ read_from b_net c_net ∷ read_from b_net a_net ∷ read_from b_net a_net ∷ []

abbrev pub docs : Net ℕ Act → List ℕ
docs net = map net.doc (a_net ∷ b_net ∷ c_net ∷ [])

abbrev pub waiting : Net ℕ Act → List ℕ
waiting net = map (λ s. length (net.queue s b_net ++ net.queue b_net s)) (a_net ∷ c_net ∷ [])

-- the 5, which crossed the 7, becomes nothing at b, and is not passed on to a
pub record LineRests : Type 0 where
  pub may : AllMayBe register start (crossing ++ read ++ later ++ again)
  pub crossed : docs (after_all register start crossing) ≡ 7 ∷ 7 ∷ 5 ∷ []
  pub on_way : waiting (after_all register start crossing) ≡ 0 ∷ 2 ∷ []
  pub seven : docs (after_all register start (crossing ++ read)) ≡ 7 ∷ 7 ∷ 7 ∷ []
  pub none_on_way : waiting (after_all register start (crossing ++ read)) ≡ 0 ∷ 0 ∷ []
  pub three : docs (after_all register start (crossing ++ read ++ later)) ≡ 3 ∷ 3 ∷ 3 ∷ []
  pub at_rest : waiting (after_all register start (crossing ++ read ++ later)) ≡ 0 ∷ 0 ∷ []
  pub nine : docs (after_all register start (crossing ++ read ++ later ++ again)) ≡ 9 ∷ 9 ∷ 9 ∷ []

-- ---- what is no diamond

-- the same, but for what becomes of one behind another
abbrev pub by_crossing : (ℕ → Act → Act → Act) → Editing ℕ Act
by_crossing crossed = record register { crossed = crossed }

-- 3 at a and 5 at b cross, and both are read
abbrev pub both_ways : List (Step Act)
both_ways =
    made (link a_net b_net) [] [] ∷ given a_net (write 3) ∷ given b_net (write 5)
    ∷ read_from a_net b_net ∷ read_from b_net a_net ∷ []

abbrev pub blank_start : Net ℕ Act
blank_start = record start { doc = λ s. 0 }

-- at a and at b in the end
abbrev pub docs_by : (ℕ → Act → Act → Act) → List ℕ
docs_by crossed =
    map (after_all (by_crossing crossed) blank_start both_ways).doc (a_net ∷ b_net ∷ [])

-- the greater stays; both are done as they came; neither is
pub record WrongOnesDiffer : Type 0 where
  pub by_greater : docs_by greater ≡ 5 ∷ 5 ∷ []
  pub as_they_came : docs_by (λ n theirs ours. theirs) ≡ 5 ∷ 3 ∷ []
  pub neither : docs_by (λ n theirs ours. nothing) ≡ 3 ∷ 5 ∷ []
