-- What was read of the root slots is what they say.
use Rattle.std.proofs.Common.{◌≡◌, ℕ, ◌-◌, Bool, List, refl, sym, ap, ap₂, ◌∙◌}
use Rattle.change_codec.specs.declared.format.Format.{Format}
use Rattle.root_slots.specs.Body.{Root}
use Rattle.root_slots.specs.Live.{IsLive}
use Rattle.root_slots.specs.Root.{format_of, version_of, replica_of}
use Rattle.root_slots.specs.Slots.{body}
use Rattle.root_reports.specs.Reports.{report_of, stale_of}
use Rattle.root_reports.specs.declared.stale.Stale.{Stale}

-- the live slot's head, and what the other slot's body is beside it
pub report_is : (file : List ℕ) (page slot : ℕ) (stale_open : Bool) (head : Root) (format : Format) (version replica : ℕ) (bytes : List ℕ) (stale : Stale)
    → IsLive file slot stale_open head → page ≡ slot → bytes ≡ body (1 - page) file
    → format ≡ head.format → version ≡ head.version → replica ≡ head.replica → stale ≡ stale_of version bytes
    → (record { page = page; format = format; version = version; replica = replica; stale = stale }) ≡ report_of file
report_is file page slot stale_open head format version replica bytes stale live at read f v r s =
    let says = live.spells.says in
    let same_format : format ≡ format_of (body slot file) = f ∙ sym (ap (λ root. root.format) says) in
    let same_version : version ≡ version_of (body slot file) = v ∙ sym (ap (λ root. root.version) says) in
    let same_replica : replica ≡ replica_of (body slot file) = r ∙ sym (ap (λ root. root.replica) says) in
    let same_stale : stale ≡ stale_of (version_of (body slot file)) (body (1 - slot) file) =
    s ∙ ap₂ stale_of same_version (read ∙ ap (λ page. body (1 - page) file) at) in
    rw (live.picked, at, same_format, same_version, same_replica, same_stale) refl
