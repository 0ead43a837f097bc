-- The forms that a set made of bytes means. Assumes nothing.
use Rattle.std.specs.Prelude.{List}
use Rattle.forms.specs.Forms.{Form}
use Rattle.form_format.specs.Reading.{forms_in}
use Rattle.listed.specs.declared.held.ListedForms.{ListedForms}

abbrev pub meant : ListedForms → List Form
meant t = forms_in t.bytes.now
