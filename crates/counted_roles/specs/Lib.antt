pub mod CountedRoles
