-- What the code's keys say. Assumes nothing.
use Rattle.forms.specs.Keys as keys
use Rattle.forms.specs.declared.key.Spelled.{Spelled}
use Rattle.forms.specs.declared.key.Spelled.TheVariants.{Name, «Type», ArgumentType, Argument, Args, Rest, AtProperty, AtPropertyType, Plain}

abbrev pub key_of : Spelled → keys.Key
key_of Name = keys.name
key_of «Type» = keys.type
key_of (ArgumentType i) = keys.argument_type i
key_of (Argument i) = keys.argument i
key_of Args = keys.args
key_of Rest = keys.rest
key_of (AtProperty p) = keys.at_property p.now
key_of (AtPropertyType p) = keys.at_property_type p.now
key_of (Plain p) = keys.property p.now
