-- The forms in which a page may be read.
use Rattle.std.specs.Prelude.{ℕ, List, Option, Some, None, codes, bytes_eq, if◌then◌else◌}
use Rattle.page_reading.specs.declared.page_form.PageForm.{PageForm}
use Rattle.page_reading.specs.declared.page_form.PageForm.TheVariants.{Text, Markdown}

-- the form of this name
abbrev pub page_form_named : List ℕ → Option PageForm
page_form_named name =
    if bytes_eq name (codes "text") then Some Text
    else if bytes_eq name (codes "markdown") then Some Markdown
    else None
