-- The text is within the bytes that hold it.
use Rattle.std.proofs.Common.{List, ℕ, ◌≡◌, ◌-◌, ◌≤◌, length, arith, length-append, sym}
use Rattle.std.proofs.Math.ListN.{replicate}
use Rattle.std.proofs.lemmas.List.{length-take-le}
use Rattle.journal.specs.declared.Printed.{Printed}
use Rattle.journal.specs.Report.{report_text, holding}
use Rattle.journal_check.proofs.main.Goals as goal

within : (printed : Printed) (text : List ℕ) → printed ≡ holding text → printed.len ≤ length printed.bytes
unfolding holding
within printed text e = rw e (omega (arith, length-append text (replicate (32 - length text) 0)))

pub slice_bounds-bytes-end : goal.slice_bounds-bytes-end
slice_bounds-bytes-end c = within c.report-len.result (report_text _) c.report-len.ensures

pub slice_bounds-print-end : goal.slice_bounds-print-end
slice_bounds-print-end c = sym (length-take-le _ _ (within c.report-len.result (report_text _) c.report-len.ensures))
