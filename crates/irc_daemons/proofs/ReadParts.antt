-- The first part of a turn that reads a connection: nobody comes, and nothing has come of any
-- other.
use Rattle.std.proofs.Common.{◌≡◌, ℕ, Bool, false, nat_eq, Option, None, List, [], refl, ◌∙◌, ap}
use Rattle.std.proofs.Common.{if◌then◌else◌}
use Rattle.irc_outbox.specs.declared.wire.Ready.{Ready}
use Rattle.irc_outbox.specs.declared.wire.Ready.TheVariants.{Client, Linked, Idle, Readable}
use Rattle.irc_outbox.specs.declared.wire.Ready.TheVariants.{Writable}
use Rattle.irc_outbox.specs.Calls.{Call}
use Rattle.irc_engine.specs.declared.engine.OutboxSizes.{OutboxSizes}
use Rattle.irc_engine.specs.Running.{Answers, Moment, Reads, not_open, read_once}
use Rattle.irc_daemons.specs.Doings.{Doings, answers_did, newcomer_in, reads_did}
use Rattle.irc_daemons.specs.Items.{AnswersSpaced, ReadsSpaced}
use Rattle.irc_daemons.proofs.Turn.{FirstPart, first_part, reads_part}

abbrev number_of : Ready → ℕ
number_of (Client conn host) = conn
number_of (Linked conn called) = conn
number_of Idle = 0
number_of (Readable conn) = conn
number_of (Writable conn) = conn

module _ {W : Type 0} (is_after : W → List Call → Type 0) where
  pub record IsReading (conn : ℕ) (old mid : Moment W) (did : Doings) (newcomer : Option ℕ)
      (spaced : Bool → Type 0)
      (part : FirstPart is_after old mid did newcomer spaced) : Type 0 where
    pub begin_is : part.begin ≡ old
    pub given_is : part.given ≡ []
    pub nobody : newcomer ≡ None
    pub else_none : (q : ℕ) → nat_eq conn q ≡ false → part.came q ≡ []

  which_reads : (conn which : ℕ) (old mid : Moment W) (done : Reads is_after which old mid)
      → which ≡ conn → IsReading conn old mid (reads_did is_after which old mid done) None
      (λ later. ReadsSpaced is_after later which old mid done)
      (reads_part is_after which old mid done)
  which_reads conn which old mid (not_open closed ran) same =
      record { begin_is = refl; given_is = refl; nobody = refl; else_none = λ q two. refl }
  which_reads conn which old mid (read_once room answer bytes is_open as_large ran) same = record {
    begin_is = refl;
    given_is = refl;
    nobody = refl;
    else_none = λ q two. ap (λ b. if b then bytes else []) (ap (λ n. nat_eq n q) same ∙ two);
  }

  pub part_reads : (sizes : OutboxSizes) (report : Ready) (old mid : Moment W)
      (answers : Answers is_after sizes report old mid) (conn : ℕ) → report ≡ Readable conn
      → IsReading conn old mid (answers_did is_after sizes report old mid answers)
      (newcomer_in is_after sizes report old mid answers)
      (λ later. AnswersSpaced is_after later sizes report old mid answers)
      (first_part is_after sizes report old mid answers)
  part_reads sizes Idle old mid answers conn is = cc is
  part_reads sizes (Client which host) old mid answers conn is = cc is
  part_reads sizes (Linked which called) old mid answers conn is = cc is
  part_reads sizes (Readable which) old mid answers conn is =
      which_reads conn which old mid answers (ap number_of is)
  part_reads sizes (Writable which) old mid answers conn is = cc is
