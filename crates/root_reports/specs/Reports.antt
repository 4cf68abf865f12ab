-- What the two root slots of a file say to whoever keeps it.
use Rattle.std.specs.Prelude.{ℕ, ◌-◌, nat_lt, if◌then◌else◌, List, Result, Ok, Err}
use Rattle.page_file.specs.Pages.{is_zero}
use Rattle.root_slots.specs.Root.{is_root, format_of, version_of, replica_of}
use Rattle.root_slots.specs.Slots.{body, live}
use Rattle.root_reports.specs.declared.slot_report.SlotReport.{SlotReport}
use Rattle.root_reports.specs.declared.stale.Stale.{Stale}
use Rattle.root_reports.specs.declared.stale.Stale.TheVariants.{Older, Unfinished, Empty, Broken}

-- a root of a smaller version than the live one is older, and any other is of a commit that was cut off
abbrev pub stale_by : ℕ → ℕ → Stale
stale_by version live = if nat_lt version live then Older else Unfinished

-- what a body is beside a live one of this version: nothing if all its bytes are zero, broken if it is no root, and else a root of its version
abbrev pub stale_of : ℕ → List ℕ → Stale
stale_of live body =
    if is_zero body then Empty else if is_root body then stale_by (version_of body) live else Broken

-- what a file says whose live slot is in this page
abbrev pub report_at : ℕ → List ℕ → SlotReport
report_at page file = record {
  page = page;
  format = format_of (body page file);
  version = version_of (body page file);
  replica = replica_of (body page file);
  stale = stale_of (version_of (body page file)) (body (1 - page) file);
}

-- the page of the live slot, and page 0 if none is live
abbrev pub page_of : Result ℕ ℕ → ℕ
page_of (Ok page) = page
page_of (Err fault) = 0

-- what the root slots of a file say
abbrev pub report_of : List ℕ → SlotReport
report_of file = report_at (page_of (live file)) file
