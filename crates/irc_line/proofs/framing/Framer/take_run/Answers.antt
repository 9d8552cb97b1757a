use Rattle.std.proofs.Common.{arith}
use Rattle.irc_line.proofs.Runs.{run_takes, run_ends_no_line, end_takes}
use Rattle.irc_line.proofs.framing.Framer.take_run.Goals as goal

pub returns-then-run-bytes-clause-takes : goal.returns-then-run-bytes-clause-takes
returns-then-run-bytes-clause-takes c =
    run_takes _ _ _ _ c.run_before_end-run.ensures.no_end c.go_on.ensures

pub returns-then-run-bytes-clause-first : goal.returns-then-run-bytes-clause-first
returns-then-run-bytes-clause-first c = λ k below. run_ends_no_line c.args.self.now c.args.bytes.now
    c.run_before_end-run.result.0 k c.run_before_end-run.ensures.no_end (omega arith)

pub returns-clause-takes : goal.returns-clause-takes
returns-clause-takes c =
    end_takes _ _ _ _ _ c.end_line.result (omega arith) c.run_before_end-run.ensures.no_end
    (c.run_before_end-run.ensures.ends (omega arith)) c.go_on.ensures c.end_line.ensures

pub returns-clause-first : goal.returns-clause-first
returns-clause-first c = λ k below. run_ends_no_line c.args.self.now c.args.bytes.now
    c.run_before_end-run.result.0 k c.run_before_end-run.ensures.no_end (omega arith)
