-- `Kind::named` meets its contract: its length and its first three letters tell a name.
-- Assumes nothing.
use mathlib.Core.Path.{ap, ◌∙◌}
use Rattle.form.specs.declared.letters.Letters.{Letters}
use Rattle.form.specs.Names.{kind_names, kind_of}
use Rattle.form.specs.inner.Lettering.{name_in}
use Rattle.form.proofs.Names.{known-number, kinds-short}
use Rattle.form.proofs.kind.Kind.named.Goals as goal

pub returns : goal.returns
unfolding kind_of
returns c =
    c.of.ensures
    ∙ ap (λ (l : Letters). kind_of (name_in l)) c.of-name.ensures
    ∙ known-number kind_names kinds-short c.args.text.now
