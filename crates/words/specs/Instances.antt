-- The instances by name (QUARK 3.3).
use Rattle.quark.specs.Instance as quark
use Rattle.words.specs.declared.instances.Instance.{Instance}
use Rattle.words.specs.declared.instances.Instance.TheVariants.{U, D, S}

-- the instance of the definition that a name is
unfoldable pub named : Instance → quark.Instance
named U = quark.U
named D = quark.D
named S = quark.S
