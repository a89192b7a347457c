-- What a report, a refusal and a stop say.
use Rattle.std.specs.Prelude.{ℕ, List, []}
use Rattle.call_stages.specs.declared.report.Refusal.{Refusal}
use Rattle.call_stages.specs.declared.report.Refusal.TheVariants as refusal
use Rattle.call_stages.specs.declared.report.Stop.{Stop}
use Rattle.call_stages.specs.declared.report.Stop.TheVariants as stop
use Rattle.call_stages.specs.declared.status.Status.{Status}

-- The status of a refusal.
abbrev pub refusal_status : Refusal → Status
refusal_status (refusal.Reported report) = report.status
refusal_status refusal.OutOfMemory = Status.OutOfMemory

-- The text of a refusal; want of memory has none.
abbrev pub refusal_text : Refusal → List ℕ
refusal_text (refusal.Reported report) = report.text.items
refusal_text refusal.OutOfMemory = []

-- The status of a call that was broken off.
abbrev pub stop_status : Stop → Status
stop_status stop.WriteFault = Status.WriteFault
stop_status stop.OutOfMemory = Status.OutOfMemory
