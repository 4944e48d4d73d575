-- `Context::named` meets its contract: its length and its first three letters tell a name.
-- Assumes nothing.
use mathlib.Core.Path.{ap, ◌∙◌}
use Rattle.form.specs.declared.letters.Letters.{Letters}
use Rattle.form.specs.Names.{context_names, context_of}
use Rattle.form.specs.inner.Lettering.{name_in}
use Rattle.form.proofs.Names.{known-number, contexts_short}
use Rattle.form.proofs.context.Context.named.Goals as goal

pub returns : goal.returns
unfolding context_of
returns c =
    c.of.ensures
    ∙ ap (λ (l : Letters). context_of (name_in l)) c.of-name.ensures
    ∙ known-number context_names contexts_short c.args.text.now
