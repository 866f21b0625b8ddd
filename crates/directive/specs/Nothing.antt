-- What stands where there is no directive.
use Rattle.std.specs.Prelude.{false}
use Rattle.register.specs.declared.records.Reach.TheVariants.{Itself}
use Rattle.directive.specs.declared.Subject.TheVariants.{Person}
use Rattle.directive.specs.declared.Directive.{Directive}

abbrev pub no_directive : Directive
no_directive =
    record {
      number = 0;
      permit = false;
      subject = Person 0;
      subject_origins = 0;
      «record» = 0;
      reach = Itself;
      origins = 0;
      sensitivities = 0;
      kinds = 0;
      purposes = 0;
      from = 0;
      until = 0;
    }
